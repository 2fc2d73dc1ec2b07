use Rattle.std.proofs.Common.{◌≡◌, All, take}
use Rattle.row_state.specs.Candidates.{IsCandidate, candidate_steps}
use Rattle.row_state.proofs.candidate.list.Given as goal

abbrev pub invariant-loop-step : goal.invariant-loop-step
invariant-loop-step l = All (IsCandidate l.kinds) l.all × (candidate_steps l.all ≡ take l.step-index l.step-items)
