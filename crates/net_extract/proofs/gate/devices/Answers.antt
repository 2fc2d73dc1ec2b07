use Rattle.std.proofs.Common.{◌<◌, arith, length, sym, subst, refl}
use Rattle.net_extract.specs.Devices.{IsFirstOdd}
use Rattle.net_extract.specs.GateNets.{IsOddFault}
use Rattle.net_extract.specs.Connections.{firsts_of}
use Rattle.net_extract.specs.declared.piece.Piece.{Piece}
use Rattle.net_extract.proofs.Gating.{gates_of, more_done, all_done, first_odd}
use Rattle.net_extract.proofs.Wiring.{at_blank}
use Rattle.net_extract.proofs.gate.devices.Goals as goal

pub returns-in-None-clause-odd : goal.returns-in-None-clause-odd
returns-in-None-clause-odd c =
    let a = c.loop-net-test.true in
    let b = c.len-net-end.ensures in
    let l : c.loop-net.net < length c.args.gates.now.firsts.items = omega (arith, b) in
    subst (IsOddFault c.args.map.now.deck c.args.shapes.now) (sym c.odd.ensures) (subst (λ (p : Piece). IsFirstOdd c.args.map.now.deck c.args.shapes.now p.left p.low) (at_blank c.args.gates.now.firsts.items c.index.result.now c.loop-net.net l (sym c.index.ensures)) (first_odd c.args.map.now.deck c.args.shapes.now c.requires.gates.shapes c.args.gates.now.wires.items c.args.gates.now.firsts.items (firsts_of c.args.map.now.firsts.items) c.loop-net.net c.loop-net.devices (gates_of c.args.shapes.now c.args.gates.now.wires.items c.args.gates.now.firsts.items c.requires.gates) l c.loop-net.invariant (c.in-None.ensures.none refl)))

pub loop-net-preserved : goal.loop-net-preserved
loop-net-preserved c = more_done c.args.map.now.deck c.args.shapes.now c.args.gates.now.wires.items c.args.gates.now.firsts.items (firsts_of c.args.map.now.firsts.items) c.loop-net.net c.loop-net.devices c.push.new.self c.in-Some.device c.loop-net.invariant c.in-Some.ensures.some c.in-Ok.ensures.ok

pub returns-clause-ok : goal.returns-clause-ok
returns-clause-ok c =
    let a = c.loop-net-test.false in
    let b = c.len-net-end.ensures in
    let d = c.loop-net.auto.net-end in
    all_done c.args.map.now.deck c.args.shapes.now c.requires.gates.shapes c.args.gates.now.wires.items c.args.gates.now.firsts.items (firsts_of c.args.map.now.firsts.items) c.loop-net.net c.loop-net.devices (gates_of c.args.shapes.now c.args.gates.now.wires.items c.args.gates.now.firsts.items c.requires.gates) (omega (arith, b)) c.loop-net.invariant
