-- What accepted lemmas say of the gaps of each arrangement.
use Rattle.std.specs.Prelude.{ℕ, ◌+◌, ◌-◌, ◌*◌, ◌≤◌, Bool, List, [], ◌∷◌, Result, Ok, Err, IfOk}
use Rattle.std.proofs.Common.{refl, subst, arith}
use Rattle.cell_num.specs.declared.finger.Fingers.{Fingers}
use Rattle.cell_num.specs.declared.net.NetNo.{NetNo}
use Rattle.cell_num.specs.Fingers.{AreFingers}
use Rattle.row_model.specs.Gaps.{gaps_of}
use Rattle.open_gates.specs.declared.gates.OpenGates.{OpenGates}
use Rattle.open_gates.specs.Open.{is_left_open, is_merged_net}
use Rattle.trail_check.specs.Accepted.{IsLow}
use Rattle.trail_check.specs.Justified.{gaps_proved}
use Rattle.trail_pools.specs.declared.level.PoolLevel.{PoolLevel}
use Rattle.trail_pools.specs.declared.pools.Pools.{Pools}
use Rattle.trail_pools.specs.declared.state.PoolState.{PoolState}
use Rattle.trail_pools.specs.Leveled.{has_pool, levels_of, pools_of}
use Rattle.trail_pools.specs.Levels.{PoolEnds}
use Rattle.trail_pools.specs.State.{ends_after, start, state_after}
use Rattle.trail_pools.proofs.Law.{pool_ends}
use Rattle.trail_pools.proofs.Leveled.{are_levels}
use Rattle.trail_pools.proofs.PoolNets.{pools_are, test_is}
use Rattle.end_lemmas.specs.declared.lemma.EndLemma.{EndLemma}
use Rattle.end_lemmas.specs.Steps.{Ends}
use Rattle.end_lemmas.proofs.Sound.{all_true, ends_true}
use Rattle.pool_check.specs.declared.refusal.PoolRefusal.{PoolRefusal}
use Rattle.pool_check.specs.Accepted.{AreTrueOf, IsAccepted}
use Rattle.pool_check.specs.Stepping.{pool_steps, steps_of}

-- the ends of these steps are those of pools
pool_ends_of : (pools : Pools) (levels : List PoolLevel) (s : PoolState) (k : ℕ) → Ends (pool_steps pools) levels s k
    → PoolEnds pools.nodes pools.row (has_pool pools) levels s k
pool_ends_of pools [] s k h = h
pool_ends_of pools (l ∷ ls) s k h = λ c within.
    pool_ends_of pools ls (state_after pools.nodes pools.row (has_pool pools) l.next s c l.now)
    (k - ends_after pools.nodes pools.row (has_pool pools) l.next s c l.now) (h c within)

half : (ends gaps : ℕ) → ends ≤ 2 * (gaps + 1) → gaps_proved ends ≤ gaps
half ends gaps h = omega (arith, h)

module _ (f : Fingers) (opened : OpenGates) (order : List NetNo) (lemmas : List (EndLemma PoolState)) where
  -- no arrangement has fewer gaps than the lemmas say
  pub accepted_low : AreFingers f → (ends : ℕ) → IsAccepted f opened order lemmas ends → IsLow f (gaps_proved ends)
  accepted_low ok ends h row arranges =
      let holds : Ends (steps_of f opened) (levels_of f opened order) start ends =
      ends_true (steps_of f opened) (levels_of f opened order) lemmas start ends h.justified h.proved in
      let by_pools : PoolEnds (256 * f.nets) opened.row (has_pool (pools_of f opened)) (levels_of f opened order) start
      ends = pool_ends_of (pools_of f opened) (levels_of f opened order) start ends holds in
      let by_nets : PoolEnds (256 * f.nets) opened.row (is_merged_net f opened) (levels_of f opened order) start ends =
      subst (λ (p : ℕ → Bool). PoolEnds (256 * f.nets) opened.row p (levels_of f opened order) start ends)
      (test_is f opened (pools_of f opened) ok refl) by_pools in
      half ends (gaps_of row)
      (pool_ends f ok opened.row (is_left_open opened) (is_merged_net f opened) (pools_are f opened) order h.gates
      (levels_of f opened order) ends
      (are_levels f opened order (levels_of f opened order) ok refl h.gates.gates) by_nets row arranges)

  -- each of them is true
  pub accepted_true : (r : Result ℕ PoolRefusal) → IfOk r (IsAccepted f opened order lemmas)
      → IfOk r (λ _. AreTrueOf f opened order lemmas)
  accepted_true (Ok ends) h = all_true (steps_of f opened) (levels_of f opened order) lemmas h.justified
  accepted_true (Err cause) h = tt
