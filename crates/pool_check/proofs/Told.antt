-- What the check of the lemmas tells.
use Rattle.std.specs.Prelude.{ℕ, ◌≡◌, ◌≤◌, List, None, Some, All}
use Rattle.std.proofs.Common.{subst}
use Rattle.std.proofs.lemmas.List.Elements.{All-weaker}
use Rattle.cell_num.specs.declared.finger.Fingers.{Fingers}
use Rattle.cell_num.specs.declared.net.NetNo.{NetNo}
use Rattle.open_gates.specs.declared.gates.OpenGates.{OpenGates}
use Rattle.trail_pools.specs.declared.level.PoolLevel.{PoolLevel}
use Rattle.trail_pools.specs.declared.pools.Pools.{Pools}
use Rattle.trail_pools.specs.declared.state.PoolState.{PoolState}
use Rattle.trail_pools.specs.Leveled.{HasFew, levels_of}
use Rattle.trail_pools.specs.State.{start}
use Rattle.end_lemmas.specs.declared.lemma.EndLemma.{EndLemma}
use Rattle.end_lemmas.specs.Justified.{AreEndsProved, AreJustified, IsFirstUnproved, IsUnproved}
use Rattle.pool_check.specs.declared.along.PoolOrder.{PoolOrder}
use Rattle.pool_check.specs.declared.refusal.PoolRefusal.TheVariants as refusal
use Rattle.pool_check.specs.Accepted.{IsAccepted}
use Rattle.pool_check.specs.Along.{IsAlong}
use Rattle.pool_check.specs.Refusal.{Refuses}
use Rattle.pool_check.specs.Stepping.{AreFew, pool_steps}
use Rattle.pool_check.proofs.Low.{accepted_low, accepted_true}
use Rattle.pool_check.proofs.Refusals.{all_faults_never, faults_never}

pub all_few : (pools : Pools) (levels : List PoolLevel) → pools.nodes ≤ 65536 → All HasFew levels
    → All (AreFew pools) levels
all_few pools levels nodes few =
    All-weaker HasFew (AreFew pools) (λ l h. record { nodes = nodes; few = h }) levels few

module _ (f : Fingers) (opened : OpenGates) (order : List NetNo) (lemmas : List (EndLemma PoolState))
    (o : PoolOrder) (along : IsAlong f opened order o) where
  pub accepts : (ends : ℕ) → IsFirstUnproved (pool_steps o.steps.pools) o.levels lemmas None
      → AreEndsProved start lemmas ends → IsAccepted f opened order lemmas ends
  accepts ends justified proved_ends = record {
    gates = along.order;
    justified =
        subst (λ (ps : Pools). AreJustified (pool_steps ps) (levels_of f opened order) lemmas) along.pools
        (subst (λ (ls : List PoolLevel). AreJustified (pool_steps o.steps.pools) ls lemmas) along.levels justified);
    proved = proved_ends;
  }

  pub refuses : (at : ℕ) → IsFirstUnproved (pool_steps o.steps.pools) o.levels lemmas (Some at)
      → Refuses f opened order lemmas (refusal.Unproved at)
  refuses at unproved = (
    along.order,
    along.few_ways,
    subst (λ (ps : Pools). IsUnproved (pool_steps ps) (levels_of f opened order) lemmas at) along.pools
        (subst (λ (ls : List PoolLevel). IsUnproved (pool_steps o.steps.pools) ls lemmas at) along.levels unproved),
  )

-- what the check as a whole names
pub ruleset check_rules = (accepted_low, accepted_true, faults_never, all_faults_never)
