use Rattle.std.proofs.Common.{◌≡◌, map, take}
use Rattle.open_gates.specs.Leveled.{open_edge}
use Rattle.open_gates.proofs.choices.open_edges.Given as goal

abbrev pub invariant-loop-finger : goal.invariant-loop-finger
invariant-loop-finger l = l.all.items ≡ map (open_edge l.row) (take l.finger-index l.fingers)
