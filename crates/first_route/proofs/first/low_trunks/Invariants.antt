use Rattle.std.proofs.Common.{◌≡◌, map, take}
use Rattle.first_route.specs.Ways.{low_wire}
use Rattle.first_route.proofs.first.low_trunks.Given as goal

abbrev pub invariant-loop-wire : goal.invariant-loop-wire
invariant-loop-wire l = l.placed.items ≡ map low_wire (take l.wire-index l.wires)
