-- What is refused for a fault is never accepted.
use Rattle.std.specs.Prelude.{ℕ, ◌≢◌, List, Result, Ok, Err, IfErr}
use Rattle.cell_num.specs.declared.finger.Fingers.{Fingers}
use Rattle.cell_num.specs.declared.net.NetNo.{NetNo}
use Rattle.open_gates.specs.declared.gates.OpenGates.{OpenGates}
use Rattle.trail_pools.specs.declared.state.PoolState.{PoolState}
use Rattle.end_lemmas.specs.declared.lemma.EndLemma.{EndLemma}
use Rattle.pool_check.specs.declared.refusal.PoolRefusal.{PoolRefusal}
use Rattle.pool_check.specs.declared.refusal.PoolRefusal.TheVariants as refusal
use Rattle.pool_check.specs.Accepted.{IsNeverAccepted}
use Rattle.pool_check.specs.Refusal.{IsFault, Refuses}

module _ (f : Fingers) (opened : OpenGates) (order : List NetNo) (lemmas : List (EndLemma PoolState)) where
  pub faults_never : (cause : PoolRefusal) → (cause ≢ refusal.NoMemory → Refuses f opened order lemmas cause)
      → IsFault cause → IsNeverAccepted f opened order lemmas
  faults_never refusal.Order refused fault ends h = refused (λ e. cc) h.gates
  faults_never (refusal.Choices gate) refused fault ends h = fault
  faults_never (refusal.Unproved at) refused fault ends h =
      let unproved = (refused (λ e. cc)).2 in
      unproved.fails (h.justified at unproved.lemma unproved.there)
  faults_never refusal.NoMemory refused fault ends h = fault

  pub all_faults_never : (r : Result ℕ PoolRefusal)
      → IfErr r (λ cause. cause ≢ refusal.NoMemory → Refuses f opened order lemmas cause)
      → IfErr r (λ cause. IsFault cause → IsNeverAccepted f opened order lemmas)
  all_faults_never (Ok ends) refused = tt
  all_faults_never (Err cause) refused = faults_never cause refused
