use Rattle.std.proofs.Common.{All, take}
use Rattle.row_state.specs.declared.candidate.Candidate.{Candidate}
use Rattle.track_check.specs.Steps.{StepFailsListedBy}
use Rattle.track_check.proofs.steps.steps_fail.Given as goal

abbrev pub invariant-loop-next : goal.invariant-loop-next
invariant-loop-next g l = All (λ (c : Candidate). StepFailsListedBy g.R.TrackRule.ways (g.B.GapBound.value l.grounds.bound.now) l.grounds.pins.now l.grounds.limit l.grounds.kinds.now l.earlier.lemmas.now l.lemma c.step) (take l.next-index l.next-items)
