-- A search that can list no lemmas. Where fingers are left out, it is for want of a text alone.
use Rattle.std.specs.Prelude.{ℕ, ◌≡◌, ◌⊎◌, Option}
use Rattle.std.proofs.Common.{sym, ap, subst, inl, inr, ◌∙◌}
use Rattle.cell_num.specs.declared.finger.Fingers.{Fingers}
use Rattle.cell_num.specs.Fingers.{AreFingers}
use Rattle.row_state.specs.declared.kind.Kinds.{Kinds}
use Rattle.row_state.specs.Start.{AreKinds, AreSomeKinds}
use Rattle.log_check.specs.Accepted.{WithKinds}
use Rattle.fewer_fingers.specs.declared.fewer.LeftOut.{LeftOut}
use Rattle.fewer_fingers.specs.Fewer.{staying}
use Rattle.pool_trails.specs.declared.found.PoolStop.{PoolStop}
use Rattle.pool_trails.specs.declared.found.PoolStop.TheVariants as stopped
use Rattle.pool_trails.specs.declared.opening.Opening.{Opening}
use Rattle.pool_trails.specs.declared.opening.Opening.TheVariants.{Crowded, Longer, Without}
use Rattle.pool_trails.specs.Ended.{HasManyOpen, IsPoolCrowded, IsPoolStopped, IsUnlisted}
use Rattle.pool_trails.specs.Inner.{CannotProve, Stops}
use Rattle.pool_trails.specs.Opening.{out_of, staying_by}
use Rattle.pool_trails.proofs.FewWays.{few_ways}

crowded_by : (opening : Opening) (f : Fingers) (budget : ℕ) → AreFingers f
    → HasManyOpen opening (staying_by opening f) ⊎ WithKinds f (IsUnlisted opening (staying_by opening f) budget)
    → IsPoolCrowded opening f budget
crowded_by Longer f budget ok h = h
crowded_by Crowded f budget ok h = h
crowded_by (Without row) f budget ok (inl many) = absurd (few_ways row f ok many)
crowded_by (Without row) f budget ok (inr none) = none

module _ (f : Fingers) (ok : AreFingers f) (k : Kinds) (of_f : AreKinds f k) (sound : AreSomeKinds k) (budget : ℕ) where
  stopped_by : (opening : Opening) (why : PoolStop) → Stops (CannotProve opening (staying_by opening f) budget k) why
      → IsPoolStopped opening f budget why
  stopped_by opening (stopped.Unfinished certificate proved) h = absurd h
  stopped_by opening (stopped.InVain certificate proved) h = absurd h
  stopped_by opening stopped.Crowded (inl many) = crowded_by opening f budget ok (inl many)
  stopped_by opening stopped.Crowded (inr none) = crowded_by opening f budget ok (inr (k, of_f, sound, none))
  stopped_by opening stopped.NoMemory h = tt

  -- where the code found the fingers that stay, and what is left open
  pub stopped_as : (opening opened_as : Opening) (out : Option LeftOut) (others : Fingers) (why : PoolStop)
      → out ≡ out_of opening f → others ≡ staying out f → opened_as ≡ opening
      → Stops (CannotProve opened_as others budget k) why → IsPoolStopped opening f budget why
  stopped_as opening opened_as out others why out_is others_are same h =
      stopped_by opening why
      (subst (λ (g : Fingers). Stops (CannotProve opening g budget k) why)
      (others_are ∙ ap (λ (o : Option LeftOut). staying o f) out_is)
      (subst (λ (z : Opening). Stops (CannotProve z others budget k) why) same h))
