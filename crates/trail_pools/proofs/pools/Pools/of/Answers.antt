use Rattle.std.proofs.Common.{rules, ◌≡◌}
use Rattle.open_gates.specs.Listed.{nets_merged}
use Rattle.open_gates.proofs.Listing.{tests_same}
use Rattle.trail_pools.proofs.PoolNets.{are_pools}
use Rattle.trail_pools.proofs.pools.Pools.of.Goals as goal

pub returns-clause-test : goal.returns-clause-test
returns-clause-test c =
    let nets : c.from_vec.result ≡ nets_merged c.args.fingers.now c.args.counted.now = search rules in
    tests_same c.args.fingers.now c.args.counted.now c.from_vec.result c.requires nets

pub returns-clause-are : goal.returns-clause-are
returns-clause-are c =
    let nets : c.from_vec.result ≡ nets_merged c.args.fingers.now c.args.counted.now = search rules in
    are_pools c.args.fingers.now c.args.counted.now c.from_vec.result c.requires nets
