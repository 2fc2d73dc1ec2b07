use Rattle.std.proofs.Common.{rules, ◌≡◌, true, get_or, refl}
use Rattle.std.specs.Set.{sorted_merge}
use Rattle.cell_num.specs.declared.net.NetNo.{NetNo}
use Rattle.trail_state.specs.Nodes.{node_cmp, nodes_of}
use Rattle.trail_state.proofs.Unions.{one_gate_more}
use Rattle.trail_state.proofs.nodes.open_nodes.Goals as goal

pub loop-gate-preserved : goal.loop-gate-preserved
loop-gate-preserved c =
    let none : NetNo = record { 0 = 0 } in
    let gate : NetNo = get_or c.args.gates.now c.loop-gate.gate-index none in
    let merges : c.in_ok-nodes.nodes ≡ sorted_merge node_cmp true (nodes_of c.args.fingers.now gate.0) c.loop-gate.nodes = search rules in
    one_gate_more c.args.fingers.now c.args.gates.now c.loop-gate.gate-index none gate c.loop-gate.nodes c.in_ok-nodes.nodes c.loop-gate-test.true refl c.loop-gate.invariant merges
