-- The states after some gates of an order.
use Rattle.std.specs.Prelude.{ℕ, zero, suc, ◌≡◌, Bool, List, [], ◌∷◌, Contains}
use Rattle.cell_num.specs.declared.finger.Row.{Row}
use Rattle.trail_halves.specs.declared.choice.OpenChoice.{OpenChoice}
use Rattle.trail_pools.specs.declared.level.PoolLevel.{PoolLevel}
use Rattle.trail_pools.specs.declared.pools.Pools.{Pools}
use Rattle.trail_pools.specs.declared.state.PoolState.{PoolState}
use Rattle.trail_pools.specs.Leveled.{has_pool}
use Rattle.trail_pools.specs.State.{start, state_after}

-- a choice of each of the first levels leads from the one state to the other
abbrev pub LeadTo : ℕ → Row → (ℕ → Bool) → ℕ → List PoolLevel → PoolState → PoolState → Type 0
LeadTo n r pool zero levels s t = s ≡ t
LeadTo n r pool (suc done) [] s t = ⊥
LeadTo n r pool (suc done) (l ∷ ls) s t =
    (c : OpenChoice) × Contains l.choices c
    × LeadTo n r pool done ls (state_after n r pool l.next s c l.now) t

-- the state after so many gates of an order with these levels
abbrev pub IsAfter : Pools → List PoolLevel → ℕ → PoolState → Type 0
IsAfter pools levels done s = LeadTo pools.nodes pools.row (has_pool pools) done levels start s
