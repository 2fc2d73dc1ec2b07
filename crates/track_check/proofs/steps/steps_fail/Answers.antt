use Rattle.std.proofs.Common.{All, subst}
use Rattle.std.proofs.lemmas.List.Elements.{All-more}
use Rattle.std.proofs.lemmas.Bool.{both_ways}
use Rattle.row_state.specs.declared.candidate.Candidate.{Candidate}
use Rattle.row_state.specs.Start.{IsState}
use Rattle.track_check.specs.Steps.{StepFailsListedBy, WaysFailBy}
use Rattle.row_cycles.proofs.Left.{each_left}
use Rattle.row_cycles.proofs.Loops.{all_end, no_from, yes_from}
use Rattle.track_check.proofs.steps.steps_fail.Goals as goal

pub returns-then-not-branch : goal.returns-then-not-branch
returns-then-not-branch g c = no_from (λ all. both_ways _ c.if-not-branch.true (c.in_ok-step_fails.ensures.1 (all _)))

pub loop-next-preserved : goal.loop-next-preserved
loop-next-preserved g c =
    All-more (λ (x : Candidate). StepFailsListedBy g.R.TrackRule.ways (g.B.GapBound.value c.args.grounds.now.bound.now) c.args.grounds.now.pins.now c.args.grounds.now.limit c.args.grounds.now.kinds.now c.args.earlier.now.lemmas.now c.args.lemma.now x.step) c.as_slice-next-items.result.now c.loop-next.next-index _ c.loop-next-test.true c.loop-next.invariant (c.in_ok-step_fails.ensures.0 c.if-not-branch.false)

pub returns : goal.returns
returns g c =
    yes_from (each_left c.args.grounds.now.kinds.now c.args.lemma.now.state c.args.lemma.now.gaps
    c.args.grounds.now.candidates.now
    (WaysFailBy g.R.TrackRule.ways (g.B.GapBound.value c.args.grounds.now.bound.now) c.args.grounds.now.pins.now
    c.args.grounds.now.limit c.args.grounds.now.kinds.now c.args.earlier.now.lemmas.now c.args.lemma.now)
    (subst (IsState c.args.grounds.now.kinds.now) c.requires.state c.requires.numbered.valid) c.requires.candidates
    (subst (All (λ (x : Candidate). StepFailsListedBy g.R.TrackRule.ways (g.B.GapBound.value c.args.grounds.now.bound.now) c.args.grounds.now.pins.now c.args.grounds.now.limit c.args.grounds.now.kinds.now c.args.earlier.now.lemmas.now c.args.lemma.now x.step)) c.as_slice-next-items.ensures
    (all_end (λ (x : Candidate). StepFailsListedBy g.R.TrackRule.ways (g.B.GapBound.value c.args.grounds.now.bound.now) c.args.grounds.now.pins.now c.args.grounds.now.limit c.args.grounds.now.kinds.now c.args.earlier.now.lemmas.now c.args.lemma.now x.step) c.as_slice-next-items.result.now c.loop-next.next-index c.loop-next-test.false c.loop-next.invariant)))
