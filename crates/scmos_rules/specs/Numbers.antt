-- The numbers of the rules: how they are printed, and which of them a deck has, in the table's order.
use Rattle.std.specs.Prelude.{ℕ, List, [], ◌∷◌, codes}
use Rattle.scmos_rules.specs.declared.number.RuleNo.{RuleNo}
use Rattle.scmos_rules.specs.declared.number.RuleNo.TheVariants.{N1_1, N2_1, N2_2, N2_3, N2_4, N3_1, N3_2, N3_3, N3_4}
use Rattle.scmos_rules.specs.declared.number.RuleNo.TheVariants.{N3_5, N4_2, N5_1, N5_2, N5_3, N5_4, N6_2, N7_1, N7_2}
use Rattle.scmos_rules.specs.declared.number.RuleNo.TheVariants.{N7_3, N8_1, N8_2, N8_3, N8_4, N8_5, N9_1, N9_2, N9_3}
use Rattle.scmos_rules.specs.declared.rules.Deck.{Deck}
use Rattle.scmos_rules.specs.declared.rules.Deck.TheVariants.{Plain, Taps}

abbrev pub text_of : RuleNo → List ℕ
text_of N1_1 = codes "1.1"
text_of N2_1 = codes "2.1"
text_of N2_2 = codes "2.2"
text_of N2_3 = codes "2.3"
text_of N2_4 = codes "2.4"
text_of N3_1 = codes "3.1"
text_of N3_2 = codes "3.2"
text_of N3_3 = codes "3.3"
text_of N3_4 = codes "3.4"
text_of N3_5 = codes "3.5"
text_of N4_2 = codes "4.2"
text_of N5_1 = codes "5.1"
text_of N5_2 = codes "5.2"
text_of N5_3 = codes "5.3"
text_of N5_4 = codes "5.4"
text_of N6_2 = codes "6.2"
text_of N7_1 = codes "7.1"
text_of N7_2 = codes "7.2"
text_of N7_3 = codes "7.3"
text_of N8_1 = codes "8.1"
text_of N8_2 = codes "8.2"
text_of N8_3 = codes "8.3"
text_of N8_4 = codes "8.4"
text_of N8_5 = codes "8.5"
text_of N9_1 = codes "9.1"
text_of N9_2 = codes "9.2"
text_of N9_3 = codes "9.3"

abbrev pub numbers_of : Deck → List RuleNo
numbers_of Plain =
    N1_1
    ∷ N2_1 ∷ N2_2 ∷ N2_3
    ∷ N3_1 ∷ N3_2 ∷ N3_3 ∷ N3_4 ∷ N3_5
    ∷ N4_2
    ∷ N5_1 ∷ N5_2 ∷ N5_3 ∷ N5_4
    ∷ N6_2
    ∷ N7_1 ∷ N7_2 ∷ N7_3
    ∷ N8_1 ∷ N8_2 ∷ N8_3 ∷ N8_4 ∷ N8_5
    ∷ N9_1 ∷ N9_2 ∷ N9_3
    ∷ []
numbers_of Taps =
    N1_1
    ∷ N2_1 ∷ N2_2 ∷ N2_3 ∷ N2_4
    ∷ N3_1 ∷ N3_2 ∷ N3_3 ∷ N3_4 ∷ N3_5
    ∷ N4_2
    ∷ N5_1 ∷ N5_2 ∷ N5_3 ∷ N5_4
    ∷ N6_2
    ∷ N7_1 ∷ N7_2 ∷ N7_3
    ∷ N8_1 ∷ N8_2 ∷ N8_3 ∷ N8_4 ∷ N8_5
    ∷ N9_1 ∷ N9_2 ∷ N9_3
    ∷ []
