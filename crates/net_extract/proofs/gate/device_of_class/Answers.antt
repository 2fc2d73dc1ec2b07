use Rattle.std.proofs.Common.{sym, subst}
use Rattle.net_extract.specs.Devices.{IsGateBox, IsSomeDevice}
use Rattle.box_geom.specs.Rectangle.{IsProper}
use Rattle.net_extract.specs.GateNets.{IsAllGate}
use Rattle.net_extract.specs.Pieces.{rect_of}
use Rattle.net_extract.proofs.Gating.{gates_of, box_proper, gate_box, odd_unfilled, odd_box}
use Rattle.net_extract.proofs.gate.device_of_class.Goals as goal

pub is_gate-requires : goal.is_gate-requires
is_gate-requires c = subst (λ p. IsProper (rect_of p)) (sym c.box_of_class-gate.ensures) (box_proper c.args.shapes.now c.requires.gates.shapes c.args.gates.now.wires.items c.args.gates.now.firsts.items (gates_of c.args.shapes.now c.args.gates.now.wires.items c.args.gates.now.firsts.items c.requires.gates) c.args.net c.requires.net)

pub device_of-requires-clause-gate : goal.device_of-requires-clause-gate
device_of-requires-clause-gate c = subst (λ p. IsGateBox c.args.shapes.now (rect_of p)) (sym c.box_of_class-gate.ensures) (gate_box c.args.shapes.now c.requires.gates.shapes c.args.gates.now.wires.items c.args.gates.now.firsts.items (gates_of c.args.shapes.now c.args.gates.now.wires.items c.args.gates.now.firsts.items c.requires.gates) c.args.net c.requires.net (subst (λ p. IsAllGate c.args.shapes.now (rect_of p)) c.box_of_class-gate.ensures (c.is_gate.ensures.0 c.if-is_gate.true)))

pub returns-then-is_gate-clause-none : goal.returns-then-is_gate-clause-none
returns-then-is_gate-clause-none c = λ e. odd_box c.args.map.now.deck c.args.shapes.now c.requires.gates.shapes c.args.gates.now.wires.items c.args.gates.now.firsts.items (gates_of c.args.shapes.now c.args.gates.now.wires.items c.args.gates.now.firsts.items c.requires.gates) c.args.net c.requires.net (gate_box c.args.shapes.now c.requires.gates.shapes c.args.gates.now.wires.items c.args.gates.now.firsts.items (gates_of c.args.shapes.now c.args.gates.now.wires.items c.args.gates.now.firsts.items c.requires.gates) c.args.net c.requires.net (subst (λ p. IsAllGate c.args.shapes.now (rect_of p)) c.box_of_class-gate.ensures (c.is_gate.ensures.0 c.if-is_gate.true))) (λ d. c.device_of.ensures.none e (subst (λ p. IsSomeDevice c.args.map.now.deck c.args.shapes.now (rect_of p)) (sym c.box_of_class-gate.ensures) d))

pub returns-else-is_gate-clause-none : goal.returns-else-is_gate-clause-none
returns-else-is_gate-clause-none c = λ e. odd_unfilled c.args.map.now.deck c.args.shapes.now c.requires.gates.shapes c.args.gates.now.wires.items c.args.gates.now.firsts.items (gates_of c.args.shapes.now c.args.gates.now.wires.items c.args.gates.now.firsts.items c.requires.gates) c.args.net c.requires.net (λ all. let t = c.is_gate.ensures.1 (subst (λ p. IsAllGate c.args.shapes.now (rect_of p)) (sym c.box_of_class-gate.ensures) all) in let f = c.if-is_gate.false in absurd cc)
