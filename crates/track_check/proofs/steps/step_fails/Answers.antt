use Rattle.std.proofs.Common.{◌≡◌, ◌+◌, subst}
use Rattle.row_state.specs.Completion.{cost_of}
use Rattle.row_state.specs.Steps.{IsPossible, column_of}
use Rattle.row_cycles.specs.Next.{IfLeft}
use Rattle.row_cycles.proofs.Left.{one_decides}
use Rattle.row_cycles.proofs.Loops.{yes_from}
use Rattle.track_check.specs.Steps.{WaysFailBy}
use Rattle.track_check.proofs.steps.step_fails.Goals as goal

pub returns-in_default : goal.returns-in_default
returns-in_default g c =
    yes_from (λ left possible sum.
    absurd (subst
    (λ s. IfLeft c.args.grounds.now.kinds.now s c.args.lemma.now.gaps c.args.next.now.step (λ _. ⊥))
    c.requires.state c.in_default.ensures.none left possible sum))

pub ways_fail-requires : goal.ways_fail-requires
ways_fail-requires g c = record {
  numbered = c.requires.numbered;
  state = c.requires.state;
  before = c.requires.before;
  next = c.requires.next;
  noted = c.requires.noted;
  step =
      subst (λ s. IsPossible c.args.grounds.now.kinds.now s c.args.next.now.step) c.requires.state
      c.in-Some.ensures.step;
}

pub returns : goal.returns
returns g c =
    one_decides c.args.grounds.now.kinds.now c.args.lemma.now.state c.args.lemma.now.gaps c.args.next.now.step
    c.in-Some.left
    (WaysFailBy g.R.TrackRule.ways (g.B.GapBound.value c.args.grounds.now.bound.now) c.args.grounds.now.pins.now
    c.args.grounds.now.limit c.args.grounds.now.kinds.now c.args.earlier.now.lemmas.now c.args.lemma.now
    c.args.next.now.step)
    c.in_ok-fail.fail
    (subst (λ s. IsPossible c.args.grounds.now.kinds.now s c.args.next.now.step) c.requires.state
    c.in-Some.ensures.step)
    (subst
    (λ s. cost_of s (column_of c.args.grounds.now.kinds.now c.args.next.now.step) + c.in-Some.left
    ≡ c.args.lemma.now.gaps) c.requires.state c.in-Some.ensures.left) c.in_ok-fail.ensures
