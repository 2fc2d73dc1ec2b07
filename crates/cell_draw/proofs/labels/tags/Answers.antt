use Rattle.std.proofs.Common.{◌≡◌, ◌++◌, option_to_list, rules}
use Rattle.cell_draw.specs.Layouts.{tag_of, net_no}
use Rattle.cell_draw.proofs.Sizes.{tags_more}
use Rattle.cell_draw.proofs.labels.tags.Goals as goal

pub loop-net-preserved : goal.loop-net-preserved
loop-net-preserved c =
    let next : c.add_tag.new.tags ≡ c.loop-net.tags ++ option_to_list (tag_of c.args.pins.now c.args.frame.now c.args.nodes.now c.args.trunks.now c.args.xs.now c.args.gates.now (net_no c.loop-net.net)) = search rules in
    tags_more (λ n. tag_of c.args.pins.now c.args.frame.now c.args.nodes.now c.args.trunks.now c.args.xs.now c.args.gates.now (net_no n)) c.loop-net.net c.loop-net.tags c.add_tag.new.tags c.loop-net.invariant next
