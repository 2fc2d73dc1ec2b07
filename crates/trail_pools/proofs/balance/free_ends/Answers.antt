use Rattle.std.proofs.Common.{arith}
use Rattle.trail_pools.proofs.Balances.{free_parts}
use Rattle.trail_pools.proofs.balance.free_ends.Goals as goal

pub overflow_add-result : goal.overflow_add-result
overflow_add-result c = omega (arith, c.low_ends-low.ensures.few, c.high_ends-high.ensures.few, c.requires)

pub returns-clause-is : goal.returns-clause-is
returns-clause-is c =
    omega (
      arith,
      c.low_ends-low.ensures.is,
      c.high_ends-high.ensures.is,
      free_parts c.args.halves.now c.args.net,
    )

pub returns-clause-few : goal.returns-clause-few
returns-clause-few c = omega (arith, c.low_ends-low.ensures.few, c.high_ends-high.ensures.few, c.requires)
