-- What lemmas are checked along.
use Rattle.std.specs.Prelude.{◌≡◌, List, All}
use Rattle.cell_num.specs.declared.finger.Fingers.{Fingers}
use Rattle.cell_num.specs.declared.net.NetNo.{NetNo}
use Rattle.trail_state.specs.Levels.{IsOrder}
use Rattle.open_gates.specs.declared.gates.OpenGates.{OpenGates}
use Rattle.trail_pools.specs.Leveled.{levels_of, pools_of}
use Rattle.pool_check.specs.declared.along.PoolOrder.{PoolOrder}
use Rattle.pool_check.specs.Accepted.{HasFewWays}
use Rattle.pool_check.specs.Stepping.{AreFew}

-- the steps and levels of an order that has each gate of a finger once, and no gate with too many ways
pub record IsAlong (f : Fingers) (opened : OpenGates) (gates : List NetNo) (along : PoolOrder) : Type 0 where
  pub order : IsOrder f gates
  pub few_ways : HasFewWays f opened gates
  pub pools : along.steps.pools ≡ pools_of f opened
  pub levels : along.levels ≡ levels_of f opened gates
  pub few : All (AreFew along.steps.pools) along.levels
