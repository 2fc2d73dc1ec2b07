use Rattle.std.proofs.Common.{◌≡◌, Some, None, arith}
use Rattle.net_extract.specs.Lookups.{net_in}
use Rattle.net_extract.specs.Pieces.{rect_of}
use Rattle.net_extract.specs.declared.piece.Conductor.TheVariants.{Poly}
use Rattle.net_extract.proofs.Labelling.{net_in_none}
use Rattle.net_extract.proofs.Siding.{along_is, corner_held}
use Rattle.net_extract.proofs.device.device_along.Goals as goal

pub returns-in-Some-gate_net-clause-some : goal.returns-in-Some-gate_net-clause-some
returns-in-Some-gate_net-clause-some c =
    let a = c.as_slice.ensures.value in
    let b = c.in-Some-gate_net.ensures in
    let e : net_in c.args.map.now.wires.items Poly c.args.gate.now.left c.args.gate.now.low ≡ Some c.in-Some-gate_net.net = grind (arith) in
    along_is c.args.map.now.deck c.args.shapes.now c.args.map.now.wires.items c.args.map.now.firsts.items c.requires.map c.args.gate.now c.args.row c.args.current c.in-Some-gate_net.net c.in-Some.ends.0 c.in-Some.ends.1 c.drawn.result c.requires.gate.proper (c.are_ends_closed.ensures.0 c.if-not-are_ends_closed.false) e c.in-Some.ensures.some.source c.in-Some.ensures.some.drain c.drawn.ensures

pub returns-in-None-gate_net-clause-none : goal.returns-in-None-gate_net-clause-none
returns-in-None-gate_net-clause-none c =
    let a = c.as_slice.ensures.value in
    let b = c.in-None-gate_net.ensures in
    let e : net_in c.args.map.now.wires.items Poly c.args.gate.now.left c.args.gate.now.low ≡ None = grind (arith) in
    λ u. absurd (net_in_none c.args.map.now.deck c.args.shapes.now c.args.map.now.wires.items c.args.map.now.firsts.items c.requires.map Poly c.args.gate.now.left c.args.gate.now.low e (c.requires.gate.gate c.args.gate.now.left c.args.gate.now.low (corner_held (rect_of c.args.gate.now) c.requires.gate.proper)).1)
