use Rattle.std.proofs.Common.{◌≡◌, ◌++◌, map, take}
use Rattle.std.specs.List.{All}
use Rattle.lef_read.specs.Agreement.{port_of}
use Rattle.lef_read.specs.Lookups.{ports_shown, IsClaim}
use Rattle.lef_read.proofs.claim.add_ports.Given as goal

abbrev pub invariant-loop-port : goal.invariant-loop-port
invariant-loop-port l =
    (ports_shown l.map l.claims.items ≡ ports_shown l.map l.fn.claims.items ++ map (port_of l.pin.name) (take l.port-index l.port-items))
    × All (IsClaim l.map) l.claims.items
