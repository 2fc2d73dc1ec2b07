-- The gates with more fingers in a row that stay open, and whether a gate has too many ways where these do.
use Rattle.std.specs.Prelude.{ℕ, ◌≡◌, ◌<◌, ◌==◌, ◌&&◌, Bool, true, false, not, if◌then◌else◌, List}
use Rattle.std.specs.Prelude.{Contains}
use Rattle.std.specs.List.{filter, list_any, range_with_len}
use Rattle.std.proofs.Common.{refl, sym, ap, arith, ◌∙◌, inl, inr}
use Rattle.std.proofs.lemmas.Bool.{and_from, and_left, both_ways, cases_Bool, eq-eqb, eqb-true, false_from_ne_true}
use Rattle.std.proofs.lemmas.Bool.{ne_eqb}
use Rattle.std.proofs.lemmas.List.Elements.{All-contains}
use Rattle.cell_num.proofs.In.{contains_map}
use Rattle.cell_num.proofs.Pairs.{Some', test_finds, test_there}
use Rattle.cell_num.specs.declared.finger.Fingers.{Fingers}
use Rattle.cell_num.specs.declared.finger.Row.{Row}
use Rattle.cell_num.specs.declared.finger.Row.TheVariants.{P, N}
use Rattle.cell_num.specs.declared.net.NetNo.{NetNo}
use Rattle.cell_num.specs.Fingers.{AreFingers, on_gate}
use Rattle.trail_state.specs.Levels.{IsGate, IsOrder}
use Rattle.trail_state.specs.Pairings as filled
use Rattle.trail_state.specs.Pairings.{gate_of, nets_at, nets_in}
use Rattle.trail_state.proofs.Members.{passes_from, passes_to}
use Rattle.trail_state.proofs.Opened.{range_has}
use Rattle.open_gates.specs.declared.gates.OpenGates.{OpenGates}
use Rattle.open_gates.specs.Open.{AreOpenGates, HasMore, fingers_at, fingers_beside, has_more, is_left_open, is_uneven}
use Rattle.open_gates.specs.Open.{is_unfilled}
use Rattle.open_gates.proofs.Decided.{more_decides}
use Rattle.pool_trails.specs.declared.opening.Opening.TheVariants.{Without}
use Rattle.pool_check.specs.Accepted.{has_many_ways}
use Rattle.trail_pools.specs.Choices.{ends_on, first_front, has_long_front, is_long_front}
use Rattle.trail_search.specs.Filling.{is_one_of, uneven_gates}
use Rattle.pool_trails.specs.Opening.{all_nets, fill_by, opened_by, opened_of}
use Rattle.pool_trails.specs.Opening.{other_row}
use Rattle.trail_search.proofs.Opening.{having_more, opened_with}
use Rattle.trail_search.proofs.Orders.{uneven_has}

-- ---- gates of a list that pass a test

pub one_of : (p : NetNo → Bool) (gates : List NetNo) (g : NetNo) → Contains gates g
    → list_any (λ (h : NetNo). h.0 == g.0) (filter p gates) ≡ p g
one_of p gates g there =
    elim (cases_Bool (p g)) [
      | inl on ↦
          test_there (λ (h : NetNo). h.0 == g.0) (filter p gates) g (passes_to p gates g there on) (eq-eqb g.0 g.0 refl)
          ∙ sym on
      | inr off ↦
          false_from_ne_true (list_any (λ (h : NetNo). h.0 == g.0) (filter p gates)) (λ found. none off found) ∙ sym off
    ]
  where
    none : p g ≡ false → list_any (λ (h : NetNo). h.0 == g.0) (filter p gates) ≡ true → ⊥
    none off found =
        let s : Some' (λ (h : NetNo). (h.0 == g.0) ≡ true) (filter p gates) =
        test_finds (λ (h : NetNo). h.0 == g.0) (filter p gates) found in
        let same : s.it ≡ g = ap (λ (v : ℕ). let h : NetNo = record { 0 = v } in h) (eqb-true s.it.0 g.0 s.holds) in
        both_ways (p g) off (sym (ap p same) ∙ (passes_from p gates s.it s.there).passes)

pub nets_have : (f : Fingers) (g : NetNo) → g.0 < f.nets → Contains (all_nets f) g
nets_have f g low =
    contains_map (λ (v : ℕ). let h : NetNo = record { 0 = v } in h) (range_with_len 0 f.nets) g.0
    (range_has f.nets g.0 low)

-- ---- the gates that stay open are those with more fingers in the row

one_row : (r s : Row) (f : Fingers) (g : NetNo) → HasMore r f g → HasMore s f g → r ≡ s
one_row P P f g a b = refl
one_row P N f g a b = absurd (omega (arith, a, b))
one_row N P f g a b = absurd (omega (arith, a, b))
one_row N N f g a b = refl

more_uneven : (r : Row) (f : Fingers) (g : NetNo) → HasMore r f g → is_uneven f g.0 ≡ true
more_uneven P f g more = ap not (ne_eqb (on_gate g.0 f.p) (on_gate g.0 f.n) (λ same. omega (arith, more, same)))
more_uneven N f g more = ap not (ne_eqb (on_gate g.0 f.p) (on_gate g.0 f.n) (λ same. omega (arith, more, same)))

module _ (row : Row) (f : Fingers) (ok : AreFingers f) (order : List NetNo) (is : IsOrder f order) (g : NetNo)
    (there : Contains order g) where
  abbrev open_row : Row
  open_row = other_row row

  abbrev fill : List NetNo
  fill = fill_by (Without row) f order

  abbrev opened : OpenGates
  opened = opened_of (Without row) f order

  unfilled_is : is_unfilled f fill g ≡ has_more open_row f g
  unfilled_is = elim (cases_Bool (is_uneven f g.0)) [
    | inl half ↦
        let gate : IsGate f g.0 = All-contains (λ (h : NetNo). IsGate f h.0) order g is.gates there in
        let filled : is_one_of fill g ≡ not (has_more open_row f g) =
        one_of (λ (h : NetNo). not (is_one_of (opened_by (Without row) f order) h)) (uneven_gates f) g
        (uneven_has f g ok gate half)
        ∙ ap not (one_of (has_more open_row f) order g there) in
        ap (λ b. b && not (is_one_of fill g)) half ∙ ap not filled ∙ twice (has_more open_row f g)
    | inr even ↦
        let none : has_more open_row f g ≡ false =
        false_from_ne_true (has_more open_row f g) (λ more.
        both_ways (is_uneven f g.0) even (more_uneven open_row f g ((more_decides open_row f g).0 more))) in
        ap (λ b. b && not (is_one_of fill g)) even ∙ sym none
  ]
    where
      twice : (b : Bool) → not (not b) ≡ b
      twice true = refl
      twice false = refl

  pub left_open : is_left_open opened g.0 ≡ has_more open_row f g
  left_open = one_of (is_unfilled f fill) order g there ∙ unfilled_is

  pub row_is : has_more open_row f g ≡ true → opened.row ≡ open_row
  row_is more =
      let all : AreOpenGates f opened =
      opened_with f ok order is (opened_by (Without row) f order) open_row (having_more open_row f order) in
      one_row opened.row open_row f g
      (All-contains (HasMore opened.row f) opened.gates g all
      (passes_to (is_unfilled f fill) order g there (unfilled_is ∙ more)))
      ((more_decides open_row f g).0 more)

-- ---- whether a gate has too many ways, where those with more fingers in the row stay open

abbrev pub open_many : Row → Fingers → ℕ → Bool
open_many r f gate =
    is_long_front 65536 r (first_front (ends_on gate (fingers_at r f))) (ends_on gate (fingers_beside r f))

abbrev pub has_many : Row → Fingers → NetNo → Bool
has_many r f g = if has_more r f g then open_many r f g.0 else filled.has_long_front 65536 f g.0

pub many_is : (r : Row) (f : Fingers) (opened : OpenGates) (g : NetNo) → is_left_open opened g.0 ≡ has_more r f g
    → (has_more r f g ≡ true → opened.row ≡ r) → has_many_ways f opened g ≡ has_many r f g
unfolding has_long_front
many_is r f opened g left row =
    elim (cases_Bool (has_more r f g)) [
      | inl more ↦
          let here : has_more opened.row f g ≡ true = ap (λ (s : Row). has_more s f g) (row more) ∙ more in
          ap by_stays (and_from (is_left_open opened g.0) (has_more opened.row f g) (left ∙ more) here)
          ∙ ap (λ (s : Row). open_many s f g.0) (row more)
          ∙ sym (ap by_more more)
      | inr none ↦
          ap by_stays (and_left (is_left_open opened g.0) (has_more opened.row f g) (left ∙ none))
          ∙ sym (ap by_more none)
    ]
  where
    by_stays : Bool → Bool
    by_stays b = if b then open_many opened.row f g.0 else filled.has_long_front 65536 f g.0

    by_more : Bool → Bool
    by_more b = if b then open_many r f g.0 else filled.has_long_front 65536 f g.0
