use Rattle.std.proofs.Common.{◌≡◌, ◌++◌, ◌+◌, ◌≤◌, length, drop}
use Rattle.dogleg_route.specs.Cuts.{cuts_from, cuts_of}
use Rattle.dogleg_route.proofs.cut.cut.Given as goal

abbrev pub invariant-loop-node : goal.invariant-loop-node
invariant-loop-node l =
    (l.stretches.items ++ cuts_from l.wire l.from (drop l.node-index l.nodes) ≡ l.fn.stretches.items ++ cuts_of l.nodes l.wire)
    × (length l.stretches.items ≤ length l.fn.stretches.items + l.node-index)
