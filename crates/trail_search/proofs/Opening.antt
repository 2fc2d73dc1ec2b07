-- The gates that are not filled all have more fingers in one row.
use Rattle.std.specs.Prelude.{◌≡◌, ◌<◌, ◌==◌, Bool, true, not, List, [], ◌∷◌, All, Contains, if◌then◌else◌}
use Rattle.std.specs.List.{filter}
use Rattle.std.proofs.Common.{refl, sym, ap, subst, arith, inl, inr}
use Rattle.std.proofs.lemmas.Bool.{and_parts, both_ways, cases_Bool, eq-eqb, eqb-true, not-true, not_from_false}
use Rattle.std.proofs.lemmas.List.Elements.{All-contains, All-head, All-nil}
use Rattle.cell_num.proofs.Lists.{all_from_contains, contains_here}
use Rattle.cell_num.proofs.Pairs.{Some', test_finds, test_there}
use Rattle.cell_num.specs.declared.net.NetNo.{NetNo}
use Rattle.cell_num.specs.declared.finger.Row.{Row}
use Rattle.cell_num.specs.declared.finger.Row.TheVariants.{P, N}
use Rattle.cell_num.specs.declared.finger.Fingers.{Fingers}
use Rattle.cell_num.specs.Fingers.{AreFingers, on_gate}
use Rattle.trail_state.specs.Levels.{IsGate, IsOrder}
use Rattle.trail_state.proofs.Members.{Passes, passes_from, passes_to}
use Rattle.open_gates.specs.Open.{AreOpenGates, HasMore, fingers_at, fingers_beside, has_more, is_uneven, is_unfilled, open_in, row_of}
use Rattle.open_gates.proofs.Decided.{more_decides}
use Rattle.trail_search.specs.Filling.{crowded_gates, filled_gates, is_one_of, opened_gates, uneven_gates}
use Rattle.trail_search.proofs.Orders.{uneven_has}

-- a row that has more fingers on the first of some gates is the longer one
longer_is : (f : Fingers) (row : Row) (gates : List NetNo) → All (HasMore row f) gates → All (HasMore (row_of f gates) f) gates
longer_is f row [] all = All-nil (HasMore (row_of f []) f)
longer_is f row (g ∷ gs) all = subst (λ (r : Row). All (HasMore r f) (g ∷ gs)) (sym (by row (All-head (HasMore row f) g gs all))) all
  where
    by : (r : Row) → HasMore r f g → row_of f (g ∷ gs) ≡ r
    by P more = ap (λ (b : Bool). if b then P else N) ((more_decides P f g).1 more)
    by N more = elim (cases_Bool (has_more P f g)) [
      | inl more_p ↦ let less : HasMore P f g = (more_decides P f g).0 more_p in absurd (omega (arith, more, less))
      | inr none ↦ ap (λ (b : Bool). if b then P else N) none
    ]

no_member : (gates : List NetNo) → ((g : NetNo) → Contains gates g → ⊥) → gates ≡ []
no_member [] none = refl
no_member (g ∷ gs) none = absurd (none g (contains_here g gs))

-- gates that were taken for their row have more fingers in it
pub having_more : (row : Row) (f : Fingers) (gates : List NetNo) (g : NetNo) → Contains (filter (has_more row f) gates) g → HasMore row f g
having_more row f gates g there = (more_decides row f g).0 (passes_from (has_more row f) gates g there).passes

-- the gates with half columns that are filled where these are left open
abbrev filled_beside : Fingers → List NetNo → List NetNo
filled_beside f left_open = filter (λ gate. not (is_one_of left_open gate)) (uneven_gates f)

module _ (f : Fingers) (ok : AreFingers f) (order : List NetNo) (is : IsOrder f order) (left_open : List NetNo) where
  unfilled_opened : (g : NetNo) → Contains (filter (is_unfilled f (filled_beside f left_open)) order) g → is_one_of left_open g ≡ true
  unfilled_opened g there =
      let p : Passes (is_unfilled f (filled_beside f left_open)) order g = passes_from (is_unfilled f (filled_beside f left_open)) order g there in
      let parts : (is_uneven f g.0 ≡ true) × (not (is_one_of (filled_beside f left_open) g) ≡ true) = and_parts (is_uneven f g.0) (not (is_one_of (filled_beside f left_open) g)) p.passes in
      let listed : Contains (uneven_gates f) g = uneven_has f g ok (All-contains (λ (h : NetNo). IsGate f h.0) order g is.gates p.there) parts.0 in
      elim (cases_Bool (is_one_of left_open g)) [
        | inl opened ↦ opened
        | inr filled ↦
            let there : Contains (filled_beside f left_open) g = passes_to (λ (h : NetNo). not (is_one_of left_open h)) (uneven_gates f) g listed (not_from_false (is_one_of left_open g) filled) in
            absurd (both_ways (is_one_of (filled_beside f left_open) g) (not-true (is_one_of (filled_beside f left_open) g) parts.1) (test_there (λ (h : NetNo). h.0 == g.0) (filled_beside f left_open) g there (eq-eqb g.0 g.0 refl)))
      ]

  -- where each of these has more fingers in one row, so has each that is not filled
  module _ (row : Row) (more : (g : NetNo) → Contains left_open g → HasMore row f g) where
    unfilled_more : (g : NetNo) → Contains (filter (is_unfilled f (filled_beside f left_open)) order) g → HasMore row f g
    unfilled_more g there =
        let s : Some' (λ (h : NetNo). (h.0 == g.0) ≡ true) left_open = test_finds (λ (h : NetNo). h.0 == g.0) left_open (unfilled_opened g there) in
        subst (λ k. on_gate k (fingers_beside row f) < on_gate k (fingers_at row f)) (eqb-true s.it.0 g.0 s.holds) (more s.it s.there)

    pub opened_with : AreOpenGates f (open_in f (filled_beside f left_open) order)
    opened_with =
        let gates : List NetNo = filter (is_unfilled f (filled_beside f left_open)) order in
        longer_is f row gates (all_from_contains (HasMore row f) gates unfilled_more)

module _ (f : Fingers) (ok : AreFingers f) (order : List NetNo) (is : IsOrder f order) where
  -- where none is left open, each is filled
  pub none_unfilled : opened_gates f order ≡ [] → filter (is_unfilled f (filled_gates f order)) order ≡ []
  none_unfilled none = no_member (filter (is_unfilled f (filled_gates f order)) order) (λ g there. both_ways (is_one_of (opened_gates f order) g) (ap (λ gs. is_one_of gs g) none) (unfilled_opened f ok order is (opened_gates f order) g there))

  pub open_gates_are : AreOpenGates f (open_in f (filled_gates f order) order)
  open_gates_are =
      let row : Row = row_of f (crowded_gates f order) in
      opened_with f ok order is (opened_gates f order) row (having_more row f (crowded_gates f order))
