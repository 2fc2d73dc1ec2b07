-- All bounds of a cell with the same limit say the same.
use Rattle.std.proofs.Common.{ℕ, ◌≡◌, ◌+◌, ◌≤◌, cond, true, false, Option, Some, None, inl, inr, refl, sym, ap, subst, arith, ◌∙◌, Contains}
use Rattle.std.proofs.Math.Path.{fun_ext}
use Rattle.std.specs.Prelude.{IsSome, is_some, nat_eq}
use Rattle.std.specs.HashMap.{get}
use Rattle.std.specs.List.{list_any}
use Rattle.std.specs.Option.{option_map, unwrap_or}
use Rattle.std.proofs.lemmas.Bool.{cases_Bool, true≢false}
use Rattle.std.proofs.lemmas.List.Elements.{All-contains}
use Rattle.cell_num.specs.declared.finger.Fingers.{Fingers}
use Rattle.cell_num.proofs.Pairs.{Some', test_fails, test_finds}
use Rattle.row_state.specs.declared.kind.Kinds.{Kinds}
use Rattle.row_state.specs.declared.state.State.{State}
use Rattle.row_state.specs.Completion.{left_in}
use Rattle.row_state.specs.Component.{component_value}
use Rattle.row_state.specs.Decoded.{rows_code}
use Rattle.row_state.specs.Start.{AreSomeKinds, IsState}
use Rattle.row_needs.specs.declared.left_ends.LeftEnds.{LeftEnds}
use Rattle.row_needs.specs.declared.needs.Needs.{Needs}
use Rattle.row_needs.specs.declared.rest.Rest.{Rest}
use Rattle.row_needs.specs.Bound.{IsBoundOf, NeedBound, are_same_kinds, need_by, need_in, value_by}
use Rattle.row_needs.specs.Rest.{IsRest, IsStart, need_at}
use Rattle.row_needs.specs.Table.{HasTable, IsTableOf}
use Rattle.row_needs.proofs.Bounds.{value_is}
use Rattle.row_needs.proofs.Full.{there_led}
use Rattle.row_needs.proofs.Rests.{first_start, meets}
use Rattle.row_needs.proofs.SameKinds.{kinds_decide}

-- ---- the rows with the fewest gaps

gaps_low : (f : Fingers) (a b : Rest) → IsRest f a → IsRest f b → a.gaps ≤ b.gaps
gaps_low f a b ha hb =
    let first : (ends : LeftEnds) × IsStart f b.gaps ends = first_start f b hb in
    omega (arith, ha.least first.1.row first.1.arranges, first.1.gaps_are)

gaps_same : (f : Fingers) (a b : Rest) → IsRest f a → IsRest f b → a.gaps ≡ b.gaps
gaps_same f a b ha hb = omega (arith, gaps_low f a b ha hb, gaps_low f b a hb ha)

start_in : (f : Fingers) (a b : Rest) (ends : LeftEnds) → IsRest f a → IsRest f b → Contains a.starts ends → Contains b.starts ends
start_in f a b ends ha hb there =
    let start : IsStart f a.gaps ends = All-contains (IsStart f a.gaps) a.starts ends ha.each there in
    subst (Contains b.starts) start.begins (hb.all start.row start.arranges (start.gaps_are ∙ gaps_same f a b ha hb))

meets_none : (f : Fingers) (s : State) (a b : Rest) → IsRest f a → IsRest f b → list_any (meets s) a.starts ≡ true → list_any (meets s) b.starts ≡ false → ⊥
meets_none f s a b ha hb met none =
    let found : Some' (λ e. meets s e ≡ true) a.starts = test_finds (meets s) a.starts met in
    true≢false (sym found.holds ∙ test_fails (meets s) b.starts found.it none (start_in f a b found.it ha hb found.there))

meets_same : (f : Fingers) (s : State) (a b : Rest) → IsRest f a → IsRest f b → list_any (meets s) a.starts ≡ list_any (meets s) b.starts
meets_same f s a b ha hb = elim (cases_Bool (list_any (meets s) a.starts)) [
  | inl met ↦ elim (cases_Bool (list_any (meets s) b.starts)) [ inl too ↦ met ∙ sym too | inr none ↦ absurd (meets_none f s a b ha hb met none) ]
  | inr none ↦ elim (cases_Bool (list_any (meets s) b.starts)) [ inl met ↦ absurd (meets_none f s b a hb ha met none) | inr too ↦ none ∙ sym too ]
]

need_same : (f : Fingers) (s : State) (a b : Rest) → IsRest f a → IsRest f b → need_at s a ≡ need_at s b
need_same f s a b ha hb = ap (λ t. cond t a.gaps (a.gaps + 1)) (meets_same f s a b ha hb) ∙ ap (λ g. cond (list_any (meets s) b.starts) g (g + 1)) (gaps_same f a b ha hb)

-- ---- the tables of a cell

-- a number of one table is a number of the other
number_in : (k : Kinds) (a b : Needs) (q : ℕ) → AreSomeKinds k → IsTableOf k a → IsTableOf k b → IsSome (get nat_eq a.rests q) → IsSome (get nat_eq b.rests q)
number_in k a b q some ha hb has = subst (λ n. IsSome (get nat_eq b.rests n)) (ha.led.number q has) (there_led k b (ha.led.state q) some hb.closed hb.start (ha.led.led q has)).has

rest_of : (k : Kinds) (a : Needs) (q : ℕ) (s : State) (rest : Rest) → IsTableOf k a → IsState k s → rows_code k s ≡ q → get nat_eq a.rests q ≡ Some rest → IsRest (left_in k s) rest
rest_of k a q s rest ha valid is there = (ha.rests s rest valid (ap (get nat_eq a.rests) is ∙ there)).0

entry_same : (k : Kinds) (a b : Needs) (q : ℕ) (s : State) (x y : Option Rest) → AreSomeKinds k → IsTableOf k a → IsTableOf k b → get nat_eq a.rests q ≡ x → get nat_eq b.rests q ≡ y → option_map (need_at s) x ≡ option_map (need_at s) y
entry_same k a b q s None None some ha hb ea eb = refl
entry_same k a b q s None (Some y) some ha hb ea eb = absurd (true≢false (sym (number_in k b a q some hb ha (ap is_some eb)) ∙ ap is_some ea))
entry_same k a b q s (Some x) None some ha hb ea eb = absurd (true≢false (sym (number_in k a b q some ha hb (ap is_some ea)) ∙ ap is_some eb))
entry_same k a b q s (Some x) (Some y) some ha hb ea eb =
    let has : IsSome (get nat_eq a.rests q) = ap is_some ea in
    let at : State = ha.led.state q in
    let valid : IsState k at = (there_led k a at some ha.closed ha.start (ha.led.led q has)).valid in
    ap Some (need_same (left_in k at) s x y (rest_of k a q at x ha valid (ha.led.number q has) ea) (rest_of k b q at y hb valid (ha.led.number q has) eb))

-- ---- the bounds of a cell

tables_same : (limit : ℕ) (k : Kinds) (s : State) (a b : Option Needs) → AreSomeKinds k → HasTable limit k a → HasTable limit k b → need_in a s k ≡ need_in b s k
tables_same limit k s None None some ha hb = refl
tables_same limit k s None (Some b) some ha hb = absurd (hb.1 ha)
tables_same limit k s (Some a) None some ha hb = absurd (ha.1 hb)
tables_same limit k s (Some a) (Some b) some ha hb = entry_same k a b (rows_code k s) s (get nat_eq a.rests (rows_code k s)) (get nat_eq b.rests (rows_code k s)) some ha.0 hb.0 refl refl

by_one : (limit : ℕ) (k : Kinds) (a b : NeedBound) (s : State) (j : Kinds) → AreSomeKinds k → IsBoundOf limit k a → IsBoundOf limit k b → need_by a s j ≡ need_by b s j
by_one limit k a b s j some ha hb =
    ap (λ z. cond (are_same_kinds j z) (need_in a.needs s j) None) (ha.kinds ∙ sym hb.kinds) ∙ elim (cases_Bool (are_same_kinds j b.kinds)) [
      | inl test ↦
          let same : k ≡ j = sym ((kinds_decide j b.kinds).0 test ∙ hb.kinds) in
          ap (λ o. cond (are_same_kinds j b.kinds) o None) (subst (λ z. need_in a.needs s z ≡ need_in b.needs s z) same (tables_same limit k s a.needs b.needs some ha.table hb.table))
      | inr apart ↦ ap (λ t. cond t (need_in a.needs s j) None) apart ∙ sym (ap (λ t. cond t (need_in b.needs s j) None) apart)
    ]

pub one_value : (limit : ℕ) (k : Kinds) (a b : NeedBound) → AreSomeKinds k → IsBoundOf limit k a → IsBoundOf limit k b → value_by a ≡ value_by b
one_value limit k a b some ha hb = fun_ext (λ row. fun_ext (λ s. fun_ext (λ j. value_is a row s j ∙ ap (λ o. unwrap_or o (component_value row s j)) (by_one limit k a b s j some ha hb) ∙ sym (value_is b row s j))))
