-- What inner contracts cite: the best of what searches with pools proved in vain, and how each search ended.
use Rattle.std.specs.Prelude.{ℕ, ◌≡◌, ◌⊎◌, ltb, [], Option, Some, None, IfSome, if◌then◌else◌}
use Rattle.cell_num.specs.declared.finger.Fingers.{Fingers}
use Rattle.cell_num.specs.declared.net.NetNo.{NetNo}
use Rattle.trail_search.specs.Ended.{IsCrowded}
use Rattle.trail_search.specs.Filling.{uneven_gates}
use Rattle.pool_trails.specs.declared.opening.Opening.{Opening}
use Rattle.pool_trails.specs.declared.opening.Opening.TheVariants.{Crowded, Longer, Without}
use Rattle.pool_trails.specs.Ended.{IsPoolCrowded}
use Rattle.pool_trails.specs.Opening.{first_out, other_row}
use Rattle.trail_either.specs.declared.evidence.TrailEvidence.{TrailEvidence}
use Rattle.trail_either.specs.declared.evidence.TrailEvidence.TheVariants.{Pools}
use Rattle.trail_either.specs.declared.found.EitherStop.{EitherStop}
use Rattle.trail_either.specs.declared.found.EitherStop.TheVariants as stopped
use Rattle.trail_either.specs.declared.in_vain.InVain.{InVain}
use Rattle.trail_either.specs.declared.search.PoolsEnd.{PoolsEnd}
use Rattle.trail_either.specs.declared.search.PoolsEnd.TheVariants.{Found, NoRow}
use Rattle.trail_either.specs.Ended.{EndsBelow, EndsLonger, HasHalfColumns, IsFound, IsVain}

-- ---- the best so far

-- the one that proves more gaps, the first of equal ones
abbrev pub better : Option InVain → Option InVain → Option InVain
better None other = other
better (Some one) None = Some one
better (Some one) (Some other) = if ltb one.proved other.proved then Some other else Some one

abbrev pub told : InVain → EitherStop
told vain = stopped.Unfinished (Pools vain.certificate) vain.proved

-- the best of what was proved, or the gate
abbrev pub without_row : NetNo → Option InVain → EitherStop
without_row gate None = stopped.Choices gate
without_row gate (Some vain) = told vain

-- what a spent search proves, or the best of before where that is more
abbrev pub spent_with : Option InVain → TrailEvidence → ℕ → EitherStop
spent_with None evidence proved = stopped.Unfinished evidence proved
spent_with (Some vain) evidence proved =
    if ltb proved vain.proved then told vain else stopped.Unfinished evidence proved

-- it was proved in vain
abbrev pub IsBest : Fingers → ℕ → Option InVain → Type 0
IsBest f budget best = IfSome best (λ vain. IsVain f budget (Pools vain.certificate) vain.proved)

-- ---- how searches ended, and proved no more than the best

-- a search with pools; where nothing is proved, none can list lemmas
abbrev pub EndsBy : Fingers → ℕ → Option InVain → Opening → Type 0
EndsBy f budget None opening = IsPoolCrowded opening f budget
EndsBy f budget (Some vain) opening = EndsBelow f budget vain.proved opening

abbrev pub LongerBy : Fingers → ℕ → Option InVain → Type 0
LongerBy f budget None = (uneven_gates f ≡ []) ⊎ IsPoolCrowded Longer f budget
LongerBy f budget (Some vain) = EndsLonger f budget vain.proved

-- that for version 1 ended at the gate
abbrev pub GateBy : Fingers → ℕ → Option InVain → Type 0
GateBy f budget best = LongerBy f budget best × ((gate : NetNo) × IsCrowded f gate)

-- all before the one that leaves open so much
abbrev pub NextBy : Fingers → ℕ → Option InVain → Opening → Type 0
NextBy f budget best Longer = HasHalfColumns f
NextBy f budget best Crowded = GateBy f budget best
NextBy f budget best (Without row) =
    GateBy f budget best × EndsBy f budget best Crowded
    × ((row ≡ first_out f) ⊎ EndsBy f budget best (Without (other_row row)))

-- it ended with a row; or without, and this is the best so far
abbrev pub IsPoolsEnd : Fingers → ℕ → Opening → PoolsEnd → Type 0
IsPoolsEnd f budget opening (Found found) = IsFound f budget found
IsPoolsEnd f budget opening (NoRow best) =
    IsBest f budget best × NextBy f budget best opening × EndsBy f budget best opening
