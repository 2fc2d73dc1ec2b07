-- What the calls on next columns promise, from what every call that takes kinds asks.
use Rattle.std.specs.Prelude.{ℕ, ◌≡◌, ◌+◌, ◌<◌, List, ◌∷◌, length, IfSome, Option, Some, None, ltb, slice_index}
use Rattle.std.proofs.Common.{refl, arith}
use Rattle.row_model.specs.declared.column.Column.{Column}
use Rattle.row_state.specs.declared.kind.Kind.{Kind}
use Rattle.row_state.specs.declared.kind.Kinds.{Kinds}
use Rattle.row_state.specs.declared.state.State.{State}
use Rattle.row_state.specs.declared.step.Side.{Side}
use Rattle.row_state.specs.declared.step.Step.{Step}
use Rattle.row_state.specs.Completion.{Completes}
use Rattle.row_state.specs.Start.{AreSomeKinds, IsState, columns_left}
use Rattle.row_state.specs.declared.gate.OnGate.{OnGate}
use Rattle.row_state.specs.Runs.{IsOnGate}
use Rattle.row_state.specs.Steps.{AreSuccessors, IsLeft, IsPossible, Unfolds, column_of, state_after}
use Rattle.row_state.specs.Tests.{columns_from, columns_on, next_columns, sides_on}
use Rattle.row_state.proofs.Next.{next_are}
use Rattle.row_state.proofs.StateAfter.{after_valid, columns_after}
use Rattle.row_state.proofs.Unfold.{Next, unfold_from, unfold_to}
use Rattle.row_state.proofs.Valid.{ends_are_nets, gates_are_nets}

side_in : (kinds : List Kind) (left : List ℕ) (side : Option Side) → length left ≡ length kinds → IsLeft kinds left side → IfSome side (λ x. x.kind < length left) × IfSome side (λ x. 0 < slice_index left x.kind)
side_in kinds left None same h = (tt, tt)
side_in kinds left (Some side) same h = (omega (arith, h.0, same), h.1)

-- the kinds of a possible step have fingers left
pub step_left : (k : Kinds) (s : State) (step : Step) → IsState k s → IsPossible k s step → (IfSome step.p (λ x. x.kind < length s.p_left) × IfSome step.p (λ x. 0 < slice_index s.p_left x.kind)) × (IfSome step.n (λ x. x.kind < length s.n_left) × IfSome step.n (λ x. 0 < slice_index s.n_left x.kind))
step_left k s step valid possible = (side_in k.p s.p_left step.p valid.p_kinds possible.p, side_in k.n s.n_left step.n valid.n_kinds possible.n)

pub valid_after : (k : Kinds) (s : State) (step : Step) → AreSomeKinds k → IsState k s → IsPossible k s step → IsState k (state_after k s step)
valid_after k s step some valid possible = after_valid k s step (ends_are_nets k some) valid possible

pub fewer_after : (k : Kinds) (s : State) (step : Step) → AreSomeKinds k → IsPossible k s step → columns_left k s ≡ columns_left k (state_after k s step) + 1
fewer_after k s step some possible = omega (arith, columns_after k s step (gates_are_nets k some) possible)

pub completes_after : (k : Kinds) (s : State) (step : Step) → AreSomeKinds k → IsPossible k s step → (rest : List Column) → Completes k (state_after k s step) rest → Completes k s (column_of k step ∷ rest)
completes_after k s step some possible rest h = unfold_from k s step rest (gates_are_nets k some) possible h

pub next_succeed : (k : Kinds) (s : State) → AreSomeKinds k → AreSuccessors k s (next_columns k s)
next_succeed k s some = next_are k s some (gates_are_nets k some)

pub next_unfold : (k : Kinds) (s : State) → AreSomeKinds k → Unfolds k s (next_columns k s)
next_unfold k s some c cs h =
    let next : Next k s c cs = unfold_to k s c cs h in
    let all : AreSuccessors k s (next_columns k s) = next_succeed k s some in
    (next.step, all.all next.step next.possible, next.is, next.rest)

-- the next columns on a gate, from their parts
pub on_gate_is : (k : Kinds) (s : State) (on : OnGate) → IsOnGate k s on → columns_from (sides_on k.p s.p_left on.gate) (sides_on k.n s.n_left on.gate) (ltb on.n.left on.p.left) (ltb on.p.left on.n.left) ≡ columns_on k s on.gate
on_gate_is k s on h = rw (h.p.left, h.n.left) refl
