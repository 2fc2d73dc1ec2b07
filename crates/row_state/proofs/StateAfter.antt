-- The state after a possible next column.
use Rattle.std.proofs.Common.{ℕ, suc, ◌≡◌, ◌+◌, ◌-◌, ◌<◌, ◌≤◌, Bool, true, false, List, ◌∷◌, length, Option, Some, None, option_map, inl, inr, refl, sym, ap, subst, arith, IsPermutation, ◌∙◌, slice_get, slice_index, IfSome, get_or}
use Rattle.std.proofs.lemmas.Bool.{cases_eq}
use Rattle.std.proofs.lemmas.List.{length-set, get_or-set_same, get_or-set_other}
use Rattle.cell_num.specs.declared.finger.Row.{Row}
use Rattle.cell_num.specs.declared.finger.Row.TheVariants.{P, N}
use Rattle.cell_num.specs.declared.net.NetNo.{NetNo}
use Rattle.cell_num.specs.declared.finger.Finger.{Finger}
use Rattle.row_model.specs.declared.column.Placed.{Placed}
use Rattle.cell_num.specs.Fingers.{on_gate}
use Rattle.row_model.specs.Arrangement.{AreOneColumn}
use Rattle.row_model.specs.Gaps.{right_net}
use Rattle.row_state.specs.declared.kind.Kind.{Kind}
use Rattle.row_state.specs.declared.kind.Kinds.{Kinds}
use Rattle.row_state.specs.declared.state.State.{State}
use Rattle.row_state.specs.declared.step.Side.{Side}
use Rattle.row_state.specs.declared.step.Step.{Step}
use Rattle.row_state.specs.Completion.{fingers_left}
use Rattle.row_state.specs.Start.{GatesAreNets, EndsAreNets, IsState, columns_left}
use Rattle.row_state.specs.Steps.{placed_of, IsLeft, IsPossible, HalfMayStand, left_after, state_after}
use Rattle.row_state.proofs.Left.{with_place, row_from}
use Rattle.row_state.specs.Gates.{gate_here, gate_other}
use Rattle.row_state.proofs.Unfold.{one_more, gate_within, placed_gate, placed_kind, gate_perm}

-- one column less is left
pub columns_after : (k : Kinds) (s : State) (step : Step) → GatesAreNets k → IsPossible k s step → columns_left k s ≡ suc (columns_left k (state_after k s step))
columns_after k s step nets possible =
    sym (one_more (placed_of P k.p step.p) (placed_of N k.n step.n) (fingers_left P k.p s.p_left) (fingers_left N k.n s.n_left) (fingers_left P k.p (left_after s.p_left step.p)) (fingers_left N k.n (left_after s.n_left step.n)) k.nets (columns_left k (state_after k s step)) (row_from P k.p s.p_left step.p possible.p) (row_from N k.n s.n_left step.n possible.n) possible.column
    (gate_within (placed_of P k.p step.p) (placed_of N k.n step.n) k.nets possible.column (placed_gate P k.p step.p k.nets nets.p) (placed_gate N k.n step.n k.nets nets.n))
    possible.half refl)

after_length : (left : List ℕ) (side : Option Side) → length (left_after left side) ≡ length left
after_length left None = refl
after_length left (Some side) = length-set left side.kind (slice_index left side.kind - 1)

after_counts : (kinds : List Kind) (left : List ℕ) (side : Option Side) → IsLeft kinds left side → length left ≡ length kinds → ((i : ℕ) (kind : Kind) → slice_get kinds i ≡ Some kind → slice_index left i ≤ kind.count) → (i : ℕ) (kind : Kind) → slice_get kinds i ≡ Some kind → slice_index (left_after left side) i ≤ kind.count
after_counts kinds left None there same h i kind is = h i kind is
after_counts kinds left (Some side) there same h i kind is =
    elim (cases_eq side.kind i) [
      | inl e ↦
          let set_here : slice_index (left_after left (Some side)) side.kind ≡ slice_index left side.kind - 1 = get_or-set_same left side.kind (slice_index left side.kind - 1) 0 (omega (arith, there.0, same)) in
          omega (arith, h i kind is, set_here, ap (λ n. get_or left n 0) e, ap (λ n. slice_index (left_after left (Some side)) n) e)
      | inr other ↦ omega (arith, h i kind is, get_or-set_other left side.kind i (slice_index left side.kind - 1) 0 (λ z. other (sym z)))
    ]

flip_end : (row : Row) (b : Bool) (kind : Kind) (nets : ℕ) → (kind.lo.0 < nets) × (kind.hi.0 < nets) → (right_net (placed_kind row kind b)).0 < nets
flip_end row true kind nets h = h.0
flip_end row false kind nets h = h.1

pub placed_end : (row : Row) (kinds : List Kind) (side : Option Side) (nets : ℕ) → ((i : ℕ) (kind : Kind) → slice_get kinds i ≡ Some kind → (kind.lo.0 < nets) × (kind.hi.0 < nets)) → IfSome (option_map right_net (placed_of row kinds side)) (λ v. v.0 < nets)
placed_end row kinds None nets below = tt
placed_end row kinds (Some side) nets below = at (slice_get kinds side.kind) refl
  where
    at : (o : Option Kind) → slice_get kinds side.kind ≡ o → IfSome (option_map right_net (placed_of row kinds (Some side))) (λ v. v.0 < nets)
    at None none = rw none tt
    at (Some kind) is = rw is (flip_end row side.flipped kind nets (below side.kind kind is))

-- what a column takes of a gate keeps the lead of the row that has it
keeps : (x y : Option Placed) (ps ns us vs : List Finger) (gate : ℕ) (lead_p lead_n : Type 0) → IsPermutation ps (with_place x us) → IsPermutation ns (with_place y vs) → AreOneColumn x y → HalfMayStand x y (λ g. on_gate g ps) (λ g. on_gate g ns) → ((lead_p → on_gate gate ns ≤ on_gate gate ps) × (lead_n → on_gate gate ps ≤ on_gate gate ns)) → (lead_p → on_gate gate vs ≤ on_gate gate us) × (lead_n → on_gate gate us ≤ on_gate gate vs)
keeps None None ps ns us vs gate lead_p lead_n hp hn column half h = absurd column
keeps (Some x) None ps ns us vs gate lead_p lead_n hp hn column half h =
    elim (cases_eq gate x.finger.gate.0) [
      | inl e ↦
          let here : on_gate gate (x.finger ∷ us) ≡ 1 + on_gate gate us = subst (λ g. on_gate g (x.finger ∷ us) ≡ 1 + on_gate g us) (sym e) (gate_here x.finger us) in
          let half' : on_gate gate ns < on_gate gate ps = subst (λ g. on_gate g ns < on_gate g ps) (sym e) half in
          ((λ l. omega (arith, half', here, gate_perm gate ps (x.finger ∷ us) hp, gate_perm gate ns vs hn)), (λ l. absurd (omega (arith, half', h.1 l))))
      | inr ne ↦ ((λ l. omega (arith, h.0 l, gate_other gate x.finger us ne, gate_perm gate ps (x.finger ∷ us) hp, gate_perm gate ns vs hn)), (λ l. omega (arith, h.1 l, gate_other gate x.finger us ne, gate_perm gate ps (x.finger ∷ us) hp, gate_perm gate ns vs hn)))
    ]
keeps None (Some y) ps ns us vs gate lead_p lead_n hp hn column half h =
    elim (cases_eq gate y.finger.gate.0) [
      | inl e ↦
          let here : on_gate gate (y.finger ∷ vs) ≡ 1 + on_gate gate vs = subst (λ g. on_gate g (y.finger ∷ vs) ≡ 1 + on_gate g vs) (sym e) (gate_here y.finger vs) in
          let half' : on_gate gate ps < on_gate gate ns = subst (λ g. on_gate g ps < on_gate g ns) (sym e) half in
          ((λ l. absurd (omega (arith, half', h.0 l))), (λ l. omega (arith, half', here, gate_perm gate ps us hp, gate_perm gate ns (y.finger ∷ vs) hn)))
      | inr ne ↦ ((λ l. omega (arith, h.0 l, gate_other gate y.finger vs ne, gate_perm gate ps us hp, gate_perm gate ns (y.finger ∷ vs) hn)), (λ l. omega (arith, h.1 l, gate_other gate y.finger vs ne, gate_perm gate ps us hp, gate_perm gate ns (y.finger ∷ vs) hn)))
    ]
keeps (Some x) (Some y) ps ns us vs gate lead_p lead_n hp hn column half h =
    let same : x.finger.gate.0 ≡ y.finger.gate.0 = ap (λ (n : NetNo). n.0) column.0 in
    elim (cases_eq gate x.finger.gate.0) [
      | inl e ↦
          let here_p : on_gate gate (x.finger ∷ us) ≡ 1 + on_gate gate us = subst (λ g. on_gate g (x.finger ∷ us) ≡ 1 + on_gate g us) (sym e) (gate_here x.finger us) in
          let here_n : on_gate gate (y.finger ∷ vs) ≡ 1 + on_gate gate vs = subst (λ g. on_gate g (y.finger ∷ vs) ≡ 1 + on_gate g vs) (sym (e ∙ same)) (gate_here y.finger vs) in
          ((λ l. omega (arith, h.0 l, here_p, here_n, gate_perm gate ps (x.finger ∷ us) hp, gate_perm gate ns (y.finger ∷ vs) hn)), (λ l. omega (arith, h.1 l, here_p, here_n, gate_perm gate ps (x.finger ∷ us) hp, gate_perm gate ns (y.finger ∷ vs) hn)))
      | inr ne ↦
          let other_n : on_gate gate (y.finger ∷ vs) ≡ on_gate gate vs = gate_other gate y.finger vs (λ z. ne (z ∙ sym same)) in
          ((λ l. omega (arith, h.0 l, gate_other gate x.finger us ne, other_n, gate_perm gate ps (x.finger ∷ us) hp, gate_perm gate ns (y.finger ∷ vs) hn)), (λ l. omega (arith, h.1 l, gate_other gate x.finger us ne, other_n, gate_perm gate ps (x.finger ∷ us) hp, gate_perm gate ns (y.finger ∷ vs) hn)))
    ]

-- the state after a possible next column is valid
pub after_valid : (k : Kinds) (s : State) (step : Step) → EndsAreNets k → IsState k s → IsPossible k s step → IsState k (state_after k s step)
after_valid k s step ends valid possible =
    record {
      p_kinds = after_length s.p_left step.p ∙ valid.p_kinds;
      n_kinds = after_length s.n_left step.n ∙ valid.n_kinds;
      p_counts = after_counts k.p s.p_left step.p possible.p valid.p_kinds valid.p_counts;
      n_counts = after_counts k.n s.n_left step.n possible.n valid.n_kinds valid.n_counts;
      p_end = placed_end P k.p step.p k.nets ends.p;
      n_end = placed_end N k.n step.n k.nets ends.n;
      lead = λ gate. keeps (placed_of P k.p step.p) (placed_of N k.n step.n) (fingers_left P k.p s.p_left) (fingers_left N k.n s.n_left) (fingers_left P k.p (left_after s.p_left step.p)) (fingers_left N k.n (left_after s.n_left step.n)) gate _ _ (row_from P k.p s.p_left step.p possible.p) (row_from N k.n s.n_left step.n possible.n) possible.column possible.half (valid.lead gate);
    }
