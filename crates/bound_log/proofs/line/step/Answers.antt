use Rattle.std.proofs.Common.{◌≤◌, List, length, subst, sym}
use Rattle.row_state.specs.declared.kind.Kind.{Kind}
use Rattle.row_state.proofs.Valid.{kinds_few}
use Rattle.bound_log.proofs.line.step.Goals as goal

pub side-requires : goal.side-requires
side-requires c = subst (λ (kinds : List Kind). length kinds ≤ 32) (sym c.as_slice.ensures) (kinds_few _ c.kinds.invariant).0

pub side-requires-2 : goal.side-requires-2
side-requires-2 c = subst (λ (kinds : List Kind). length kinds ≤ 32) (sym c.as_slice-2.ensures) (kinds_few _ c.kinds.invariant).1
