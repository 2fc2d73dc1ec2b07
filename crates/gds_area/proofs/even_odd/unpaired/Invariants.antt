use Rattle.std.proofs.Common.{◌≡◌, ◌++◌, drop, None}
use Rattle.gds_area.specs.Sweep.{unpaired}
use Rattle.gds_area.proofs.even_odd.unpaired.Given as goal

abbrev pub invariant-loop-x : goal.invariant-loop-x
invariant-loop-x l = l.out.items ++ unpaired l.waiting (drop l.x-index l.xs) ≡ unpaired None l.xs
