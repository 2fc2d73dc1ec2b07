use Rattle.std.proofs.Common.{◌∙◌}
use Rattle.trail_pools.proofs.Turned.{turned_is}
use Rattle.trail_pools.proofs.settle.is_odd.Goals as goal

pub returns : goal.returns
returns c =
    c.is_odd_after.ensures ∙ turned_is c.args.odd.now c.args.edges.now c.args.node c.is_in.result c.is_in.ensures
