use Rattle.std.proofs.Common.{rules, ◌≡◌}
use Rattle.trail_pools.specs.Leveled.{has_pool}
use Rattle.trail_pools.specs.Stepping.{candidates}
use Rattle.trail_pools.proofs.OddAmong.{few_among}
use Rattle.trail_pools.proofs.settle.odd_pooled.Goals as goal

pub returns-clause-few : goal.returns-clause-few
returns-clause-few c =
    let nodes : c.as_slice.result.now ≡ candidates c.args.pools.now.nodes c.args.odd.now c.args.edges.now =
    search rules in
    few_among c.args.pools.now.row (has_pool c.args.pools.now) c.args.odd.now c.args.edges.now c.args.pools.now.nodes
    c.as_slice.result.now c.in_ok-pooled.pooled.items nodes c.in_ok-pooled.ensures
