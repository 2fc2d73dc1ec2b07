use Rattle.std.proofs.Common.{ℕ, ◌≡◌, ◌≤◌, ◌<◌, true, List, length, get_or, subst, arith, rules}
use Rattle.std.proofs.lemmas.List.Sorted.{length_permutation}
use Rattle.cell_num.specs.declared.finger.Row.TheVariants.{P}
use Rattle.row_place.specs.declared.placement.NodePlace.{NodePlace}
use Rattle.row_place.specs.declared.placement.GatePlace.{GatePlace}
use Rattle.row_place.specs.Trunks.{HasTrunk}
use Rattle.row_place.proofs.Bounds.{few_nodes, few_gates}
use Rattle.channel_route.specs.Graph.{has_key}
use Rattle.channel_route.proofs.NetWires.{nets_more, nets_same, nets_all, wires_sorted}
use Rattle.channel_route.proofs.wire.wires.Goals as goal

abbrev no_node : NodePlace
no_node = record { row = P; line = 0; net = record { 0 = 0 } }

abbrev no_gate : GatePlace
no_gate = record { line = 0; net = record { 0 = 0 } }

pub loop-node-preserved : goal.loop-node-preserved
loop-node-preserved c =
    let short : c.loop-node.node-index < length c.args.placement.now.nodes = search rules in
    let kept : (key : ℕ) → has_key c.loop-node.wires.items key ≡ true → has_key c.add_wire.new.wires.items key ≡ true = c.in_ok-add_wire.ensures.kept in
    let there : HasTrunk c.args.placement.now c.args.pins.now (get_or c.args.placement.now.nodes c.loop-node.node-index no_node).net → has_key c.add_wire.new.wires.items (get_or c.args.placement.now.nodes c.loop-node.node-index no_node).net.0 ≡ true = search rules in (
      c.in_ok-add_wire.ensures.found,
      nets_more (λ (node : NodePlace). node.net) c.args.placement.now c.args.pins.now c.args.placement.now.nodes c.loop-node.node-index no_node c.loop-node.wires.items c.add_wire.new.wires.items short kept there c.loop-node.invariant.1,
      omega (arith, c.in_ok-add_wire.ensures.more, c.loop-node.invariant.2),
    )

pub loop-gate-init : goal.loop-gate-init
loop-gate-init c =
    let end : length c.args.placement.now.nodes ≤ c.loop-node.node-index = search rules in
    let few : c.loop-node.node-index ≤ length c.args.placement.now.nodes = search rules in (
      c.loop-node.invariant.0,
      nets_all (λ (node : NodePlace). node.net) c.args.placement.now c.args.pins.now c.args.placement.now.nodes c.loop-node.node-index c.loop-node.wires.items end c.loop-node.invariant.1,
      λ k d short. absurd (omega (arith, short)),
      omega (arith, few, c.loop-node.invariant.2),
    )

pub loop-gate-preserved : goal.loop-gate-preserved
loop-gate-preserved c =
    let short : c.loop-gate.gate-index < length c.args.placement.now.gates = search rules in
    let kept : (key : ℕ) → has_key c.loop-gate.wires.items key ≡ true → has_key c.add_wire-in-loop-gate.new.wires.items key ≡ true = c.in_ok-add_wire-2.ensures.kept in
    let same : c.as_slice-gate-items.result.now ≡ c.args.placement.now.gates = search rules in
    let there : HasTrunk c.args.placement.now c.args.pins.now (get_or c.args.placement.now.gates c.loop-gate.gate-index no_gate).net → has_key c.add_wire-in-loop-gate.new.wires.items (get_or c.args.placement.now.gates c.loop-gate.gate-index no_gate).net.0 ≡ true = subst (λ (gates : List GatePlace). HasTrunk c.args.placement.now c.args.pins.now (get_or gates c.loop-gate.gate-index no_gate).net → has_key c.add_wire-in-loop-gate.new.wires.items (get_or gates c.loop-gate.gate-index no_gate).net.0 ≡ true) same c.in_ok-add_wire-2.ensures.there in (
      c.in_ok-add_wire-2.ensures.found,
      nets_same (λ (node : NodePlace). node.net) c.args.placement.now c.args.pins.now c.args.placement.now.nodes c.loop-gate.wires.items c.add_wire-in-loop-gate.new.wires.items kept c.loop-gate.invariant.1,
      nets_more (λ (gate : GatePlace). gate.net) c.args.placement.now c.args.pins.now c.args.placement.now.gates c.loop-gate.gate-index no_gate c.loop-gate.wires.items c.add_wire-in-loop-gate.new.wires.items short kept there c.loop-gate.invariant.2,
      omega (arith, c.in_ok-add_wire-2.ensures.more, c.loop-gate.invariant.3),
    )

pub returns-clause-wires : goal.returns-clause-wires
returns-clause-wires c =
    let end : length c.args.placement.now.gates ≤ c.loop-gate.gate-index = search rules in
    wires_sorted c.args.placement.now c.args.pins.now c.loop-gate.wires.items c.sort.new.wires.items c.requires.pins c.loop-gate.invariant.0 c.loop-gate.invariant.1
    (nets_all (λ (gate : GatePlace). gate.net) c.args.placement.now c.args.pins.now c.args.placement.now.gates c.loop-gate.gate-index c.loop-gate.wires.items end c.loop-gate.invariant.2)
    c.sort.ensures.moved c.sort.ensures.sorted

pub returns-clause-few : goal.returns-clause-few
returns-clause-few c =
    let few : c.loop-gate.gate-index ≤ length c.args.placement.now.gates = search rules in
    omega (arith, few, c.loop-gate.invariant.3, few_nodes c.args.placement.now c.requires.placement, few_gates c.args.placement.now c.requires.placement, length_permutation c.loop-gate.wires.items c.sort.new.wires.items c.sort.ensures.moved)
