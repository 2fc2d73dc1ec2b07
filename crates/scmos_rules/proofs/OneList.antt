-- A layout has one list of broken rules.
use Rattle.std.proofs.Common.{◌≡◌, ℕ, zero, suc, ◌+◌, ◌<◌, ◌≤◌, leb, Bool, true, ◌&&◌, List, [], ◌∷◌, Some, slice_get, arith, refl, subst}
use Rattle.std.proofs.lemmas.Bool.{and_parts, leb-true}
use Rattle.cell_num.proofs.Lists.{some_same}
use Rattle.box_geom.specs.declared.shape.Shape.{Shape}
use Rattle.scmos_rules.specs.declared.number.RuleNo.{RuleNo}
use Rattle.scmos_rules.specs.declared.number.RuleNo.TheVariants.{N1_1, N2_1, N2_2, N2_3, N2_4, N3_1, N3_2, N3_3, N3_4, N3_5, N4_2, N5_1, N5_2, N5_3, N5_4, N6_2, N7_1, N7_2, N7_3, N8_1, N8_2, N8_3, N8_4, N8_5, N9_1, N9_2, N9_3}
use Rattle.scmos_rules.specs.declared.rules.Deck.{Deck}
use Rattle.scmos_rules.specs.declared.rules.Deck.TheVariants.{Plain, Taps}
use Rattle.scmos_rules.specs.declared.violation.Violation.{Violation}
use Rattle.scmos_rules.specs.Numbers.{numbers_of}
use Rattle.scmos_rules.specs.Violations.{StandsBefore, AreViolations}
use Rattle.scmos_rules.proofs.Orders.{ordered_same}

-- the place of a rule in the table
abbrev place : RuleNo → ℕ
place N1_1 = 0
place N2_1 = 1
place N2_2 = 2
place N2_3 = 3
place N2_4 = 4
place N3_1 = 5
place N3_2 = 6
place N3_3 = 7
place N3_4 = 8
place N3_5 = 9
place N4_2 = 10
place N5_1 = 11
place N5_2 = 12
place N5_3 = 13
place N5_4 = 14
place N6_2 = 15
place N7_1 = 16
place N7_2 = 17
place N7_3 = 18
place N8_1 = 19
place N8_2 = 20
place N8_3 = 21
place N8_4 = 22
place N8_5 = 23
place N9_1 = 24
place N9_2 = 25
place N9_3 = 26

-- the rules stand in the order of their places, from one place on
abbrev ascends : ℕ → List RuleNo → Bool
ascends least [] = true
ascends least (r ∷ rs) = leb least (place r) && ascends (place r + 1) rs

in_order : (d : Deck) → ascends 0 (numbers_of d) ≡ true
in_order Plain = refl
in_order Taps = refl

not_below : (rs : List RuleNo) (least i : ℕ) (a : RuleNo) → ascends least rs ≡ true → slice_get rs i ≡ Some a → least ≤ place a
not_below [] least i a t e = absurd cc
not_below (r ∷ rs) least zero a t e =
    subst (λ z. least ≤ place z) (some_same r a e) (leb-true least (place r) (and_parts (leb least (place r)) (ascends (place r + 1) rs) t).0)
not_below (r ∷ rs) least (suc i) a t e =
    let (here, later) = and_parts (leb least (place r)) (ascends (place r + 1) rs) t in
    let low : least ≤ place r = leb-true least (place r) here in
    let rest : place r + 1 ≤ place a = not_below rs (place r + 1) i a later e in
    omega (arith, low, rest)

later_above : (rs : List RuleNo) (least i j : ℕ) (a b : RuleNo) → ascends least rs ≡ true → i < j → slice_get rs i ≡ Some a → slice_get rs j ≡ Some b → place a < place b
later_above [] least i j a b t lt ea eb = absurd cc
later_above (r ∷ rs) least i zero a b t lt ea eb = absurd (omega (arith, lt))
later_above (r ∷ rs) least zero (suc j) a b t lt ea eb =
    let later = (and_parts (leb least (place r)) (ascends (place r + 1) rs) t).1 in
    let above : place r + 1 ≤ place b = not_below rs (place r + 1) j b later eb in
    subst (λ z. place z < place b) (some_same r a ea) (omega (arith, above))
later_above (r ∷ rs) least (suc i) (suc j) a b t lt ea eb =
    later_above rs (place r + 1) i j a b (and_parts (leb least (place r)) (ascends (place r + 1) rs) t).1 (omega (arith, lt)) ea eb

strict : (d : Deck) (v w : Violation) → StandsBefore (numbers_of d) v.rule w.rule → StandsBefore (numbers_of d) w.rule v.rule → ⊥
strict d v w a b =
    let there : place v.rule < place w.rule = later_above (numbers_of d) 0 a.i a.j v.rule w.rule (in_order d) a.before a.first a.second in
    let back : place w.rule < place v.rule = later_above (numbers_of d) 0 b.i b.j w.rule v.rule (in_order d) b.before b.first b.second in
    omega (arith, there, back)

pub one_list : (d : Deck) (s : List Shape) (vs ws : List Violation) → AreViolations d s vs → AreViolations d s ws → vs ≡ ws
one_list d s vs ws a b =
    ordered_same (λ (v w : Violation). StandsBefore (numbers_of d) v.rule w.rule) (strict d) vs ws a.order b.order
    (λ v c. (b.listed v).1 ((a.listed v).0 c)) (λ v c. (a.listed v).1 ((b.listed v).0 c))
