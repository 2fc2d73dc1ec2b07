use Rattle.std.proofs.Common.{◌≡◌, ◌++◌, ◌+◌, ◌*◌, ◌≤◌, length, drop}
use Rattle.dogleg_route.specs.Cuts.{all_cuts}
use Rattle.dogleg_route.proofs.cut.cut_all.Given as goal

abbrev pub invariant-loop-wire : goal.invariant-loop-wire
invariant-loop-wire l =
    (l.stretches.items ++ all_cuts l.nodes (drop l.wire-index l.wires) ≡ all_cuts l.nodes l.wires)
    × (length l.stretches.items ≤ l.wire-index * (length l.nodes + 1))
