-- The steps of states along an order of gates whose half columns stay open.
use Rattle.std.specs.Prelude.{◌≤◌}
use Rattle.cell_num.specs.declared.finger.Fingers.{Fingers}
use Rattle.open_gates.specs.declared.gates.OpenGates.{OpenGates}
use Rattle.trail_halves.specs.declared.choice.OpenChoice.{OpenChoice}
use Rattle.trail_pools.specs.declared.level.PoolLevel.{PoolLevel}
use Rattle.trail_pools.specs.declared.pools.Pools.{Pools}
use Rattle.trail_pools.specs.declared.state.PoolState.{PoolState}
use Rattle.trail_pools.specs.Leveled.{HasFew, has_pool, pools_of}
use Rattle.trail_pools.specs.State.{are_small, ends_after, state_after}
use Rattle.end_lemmas.specs.Steps.{Steps}

abbrev pub pool_steps : Pools → Steps PoolLevel OpenChoice PoolState
pool_steps pools = record {
  choices = λ level. level.choices;
  fits = are_small;
  next = λ level state choice.
      state_after pools.nodes pools.row (has_pool pools) level.next state choice level.now;
  ends = λ level state choice.
      ends_after pools.nodes pools.row (has_pool pools) level.next state choice level.now;
}

-- those of gates that are left open
abbrev pub steps_of : Fingers → OpenGates → Steps PoolLevel OpenChoice PoolState
steps_of f opened = pool_steps (pools_of f opened)

-- few nodes, and few places and half edges of the level
pub record AreFew (pools : Pools) (level : PoolLevel) : Type 0 where
  pub nodes : pools.nodes ≤ 65536
  pub few : HasFew level
