use Rattle.std.proofs.Common.{rules, ◌≡◌}
use Rattle.trail_pools.specs.NodesMet.{nodes_meeting}
use Rattle.trail_pools.proofs.NodesMet.{first_met}
use Rattle.trail_pools.proofs.nodes.with_gate.Goals as goal

pub returns : goal.returns
returns c =
    let first : c.as_slice.result.now ≡ nodes_meeting c.args.fingers.now c.args.counted.now c.args.gate.now.0 =
    search rules in
    first_met c.args.fingers.now c.args.counted.now c.args.gates.now c.args.gate.now c.args.later.now
    c.as_slice.result.now c.args.others.now c.in_ok-merge.field-0.items c.requires.gates first c.requires.others
    c.in_ok-merge.ensures
