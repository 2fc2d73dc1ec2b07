-- The rules. All sets are of unit cells, all values in grid units.
use Rattle.std.specs.Prelude.{ℤ, List, ◌⊎◌}
use Rattle.std.specs.List.{Contains}
use Rattle.box_geom.specs.declared.shape.Shape.{Shape}
use Rattle.box_geom.specs.declared.layer.Layer.TheVariants.{Well, Active, PSelect, NSelect}
use Rattle.box_geom.specs.declared.layer.Layer.TheVariants.{Poly, Contact, Metal1, Via, Metal2}
use Rattle.box_geom.specs.Regions.{IsEmpty}
use Rattle.scmos_rules.specs.Lengths.{FailsWidth, FailsSize}
use Rattle.scmos_rules.specs.Failing.{FailsSpacing, FailsSurround, FailsAway, FailsPartly}
use Rattle.scmos_rules.specs.Gates.{FailsPolyEnd, FailsActiveEnd, FailsFieldPoly}
use Rattle.scmos_rules.specs.Layout.{On, Gate, PActive, NActive, PSelected, NSelected, WellTap}
use Rattle.scmos_rules.specs.Layout.{SubstrateTap, PolyContact, DiffusionContact, BareContact}
use Rattle.scmos_rules.specs.Numbers.{numbers_of}
use Rattle.scmos_rules.specs.declared.rules.Deck.{Deck}
use Rattle.scmos_rules.specs.declared.number.RuleNo.{RuleNo}
use Rattle.scmos_rules.specs.declared.number.RuleNo.TheVariants.{N1_1, N2_1, N2_2, N2_3, N2_4, N3_1, N3_2, N3_3, N3_4}
use Rattle.scmos_rules.specs.declared.number.RuleNo.TheVariants.{N3_5, N4_2, N5_1, N5_2, N5_3, N5_4, N6_2, N7_1, N7_2}
use Rattle.scmos_rules.specs.declared.number.RuleNo.TheVariants.{N7_3, N8_1, N8_2, N8_3, N8_4, N8_5, N9_1, N9_2, N9_3}

-- the cells of a layout at which a rule of a deck fails
abbrev pub Fails : Deck → RuleNo → List Shape → ℤ → ℤ → Type 0
Fails d N1_1 s x y = FailsWidth (On Well s) 24 x y
Fails d N2_1 s x y = FailsWidth (On Active s) 6 x y
Fails d N2_2 s x y = FailsSpacing (On Active s) 6 x y
Fails d N2_3 s x y = FailsSurround (PActive d s) (On Well s) 12 x y ⊎ FailsAway (NActive d s) (On Well s) 12 x y
Fails d N2_4 s x y = FailsSurround (WellTap s) (On Well s) 6 x y ⊎ FailsAway (SubstrateTap s) (On Well s) 6 x y
Fails d N3_1 s x y = FailsWidth (On Poly s) 4 x y
Fails d N3_2 s x y = FailsSpacing (On Poly s) 6 x y
Fails d N3_3 s x y = FailsPolyEnd s 4 x y
Fails d N3_4 s x y = FailsActiveEnd s 6 x y
Fails d N3_5 s x y = FailsFieldPoly s 2 x y
Fails d N4_2 s x y =
    FailsSurround (PSelected d s) (On PSelect s) 4 x y ⊎ FailsSurround (NSelected d s) (On NSelect s) 4 x y
Fails d N5_1 s x y = FailsSize (On Contact s) 4 x y
Fails d N5_2 s x y = BareContact s x y ⊎ FailsSurround (PolyContact s) (On Poly s) 3 x y
Fails d N5_3 s x y = FailsSpacing (On Contact s) 6 x y
Fails d N5_4 s x y = FailsAway (On Contact s) (Gate s) 4 x y
Fails d N6_2 s x y = FailsSurround (DiffusionContact s) (On Active s) 3 x y
Fails d N7_1 s x y = FailsWidth (On Metal1 s) 6 x y
Fails d N7_2 s x y = FailsSpacing (On Metal1 s) 6 x y
Fails d N7_3 s x y = FailsSurround (On Contact s) (On Metal1 s) 2 x y
Fails d N8_1 s x y = FailsSize (On Via s) 4 x y
Fails d N8_2 s x y = FailsSpacing (On Via s) 6 x y
Fails d N8_3 s x y = FailsSurround (On Via s) (On Metal1 s) 2 x y
Fails d N8_4 s x y = FailsAway (On Via s) (On Contact s) 4 x y
Fails d N8_5 s x y = FailsPartly (On Via s) (On Poly s) 4 x y ⊎ FailsPartly (On Via s) (On Active s) 4 x y
Fails d N9_1 s x y = FailsWidth (On Metal2 s) 6 x y
Fails d N9_2 s x y = FailsSpacing (On Metal2 s) 8 x y
Fails d N9_3 s x y = FailsSurround (On Via s) (On Metal2 s) 2 x y

-- the rule is one of the deck
abbrev pub InDeck : Deck → RuleNo → Type 0
InDeck d rule = Contains (numbers_of d) rule

-- no cell fails at a rule of the deck
pub record Obeys (d : Deck) (s : List Shape) : Type 0 where
  pub none : (rule : RuleNo) → InDeck d rule → IsEmpty (Fails d rule s)
