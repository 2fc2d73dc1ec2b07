use Rattle.std.proofs.Common.{◌≡◌, map, take}
use Rattle.first_route.specs.Ways.{net_wire}
use Rattle.first_route.proofs.first.net_wires.Given as goal

abbrev pub invariant-loop-trunk : goal.invariant-loop-trunk
invariant-loop-trunk l = l.wires.items ≡ map net_wire (take l.trunk-index l.trunks)
