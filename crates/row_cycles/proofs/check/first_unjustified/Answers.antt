use Rattle.std.proofs.Common.{arith, refl, subst, take, take_all}
use Rattle.std.proofs.lemmas.Bool.{both_ways}
use Rattle.row_cycles.specs.Certificate.{IsJustified}
use Rattle.row_cycles.specs.Noted.{AreNoted, state_of}
use Rattle.row_cycles.proofs.Certified.{below_more, none_below}
use Rattle.row_cycles.proofs.Noted.{none_noted}
use Rattle.row_cycles.proofs.check.first_unjustified.Goals as goal

pub loop-at-init : goal.loop-at-init
loop-at-init g c = (
  none_below
      (IsJustified (g.B.GapBound.value c.args.grounds.now.bound.now) c.args.grounds.now.pins.now
      c.args.grounds.now.kinds.now) c.args.lemmas.now,
  none_noted state_of c.args.grounds.now.kinds.now (take 0 c.args.lemmas.now) c.args.places.now refl,
)

pub returns-then-not-branch-clause-first : goal.returns-then-not-branch-clause-first
returns-then-not-branch-clause-first g c =
    record { within = c.loop-at-test.true; before = c.loop-at.invariant.0; unjustified = λ d j. both_ways _ c.if-not-branch.true ((c.in_ok-is_justified_at.ensures d).1 j) }

pub note_lemma-requires-clause-state : goal.note_lemma-requires-clause-state
note_lemma-requires-clause-state g c d = ((c.in_ok-is_justified_at.ensures d).0 c.if-not-branch.false).state

pub loop-at-preserved : goal.loop-at-preserved
loop-at-preserved g c = (
  λ i d below.
      below_more
      (IsJustified (g.B.GapBound.value c.args.grounds.now.bound.now) c.args.grounds.now.pins.now
      c.args.grounds.now.kinds.now) c.args.lemmas.now c.loop-at.at d c.loop-at-test.true c.loop-at.invariant.0 ((c.in_ok-is_justified_at.ensures d).0 c.if-not-branch.false) i d below,
  c.in_ok-note_lemma.ensures,
)

pub returns-clause-none : goal.returns-clause-none
returns-clause-none g c = λ i d below. c.loop-at.invariant.0 i d (omega (arith, below, c.loop-at-test.false))

pub returns-clause-noted : goal.returns-clause-noted
returns-clause-noted g c = subst (λ xs. AreNoted c.args.grounds.now.kinds.now xs c.loop-at.places) (take_all c.loop-at.at c.args.lemmas.now c.loop-at-test.false) c.loop-at.invariant.1
