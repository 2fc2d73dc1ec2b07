use Rattle.std.proofs.Common.{All, take}
use Rattle.row_cycles.specs.Above.{HasNets}
use Rattle.row_cycles.proofs.justified.have_nets.Given as goal

abbrev pub invariant-loop-a : goal.invariant-loop-a
invariant-loop-a l = All (HasNets l.nets) (take l.a-index l.above)
