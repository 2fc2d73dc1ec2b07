use Rattle.std.proofs.Common.{◌≡◌, ◌+◌, ◌≤◌, ◌++◌, drop}
use Rattle.row_state.specs.Tests.{merged}
use Rattle.row_state.proofs.found.merge.Given as goal

abbrev pub invariant-loop-kind : goal.invariant-loop-kind
invariant-loop-kind l = (l.kinds ++ merged l.current (drop l.kind-index l.rest) ≡ merged l.first l.rest) × (l.current.count ≤ l.kind-index + 1)
