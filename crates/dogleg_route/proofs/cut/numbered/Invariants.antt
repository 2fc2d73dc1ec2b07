use Rattle.std.proofs.Common.{◌≡◌, ◌++◌, drop}
use Rattle.dogleg_route.specs.Cuts.{numbered_from}
use Rattle.dogleg_route.proofs.cut.numbered.Given as goal

abbrev pub invariant-loop-at : goal.invariant-loop-at
invariant-loop-at l = l.wires.items ++ numbered_from l.at (drop l.at l.stretches) ≡ numbered_from 0 l.stretches
