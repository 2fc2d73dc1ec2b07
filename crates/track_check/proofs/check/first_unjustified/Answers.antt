use Rattle.std.proofs.Common.{All, arith, refl, subst, take, take_all}
use Rattle.std.proofs.lemmas.Bool.{both_ways}
use Rattle.track_ways.specs.Certificate.{IsJustifiedBy, IsValid}
use Rattle.track_check.specs.Noted.{AreNoted, state_of}
use Rattle.track_check.proofs.Certified.{valid_below}
use Rattle.row_cycles.proofs.Certified.{below_more, none_below}
use Rattle.row_cycles.proofs.Noted.{none_noted}
use Rattle.track_check.proofs.check.first_unjustified.Goals as goal

pub loop-at-init : goal.loop-at-init
loop-at-init g c = (
  none_below
      (IsJustifiedBy g.R.TrackRule.fits (g.B.GapBound.value c.args.grounds.now.bound.now) c.args.grounds.now.pins.now
      c.args.grounds.now.limit c.args.grounds.now.kinds.now) c.args.lemmas.now,
  none_noted state_of c.args.grounds.now.kinds.now (take 0 c.args.lemmas.now) c.args.places.now refl,
)

pub returns-then-not-branch-clause-first : goal.returns-then-not-branch-clause-first
returns-then-not-branch-clause-first g c =
    let valid : All (IsValid c.args.grounds.now.pins.now c.args.grounds.now.kinds.now) (take c.loop-at.at c.args.lemmas.now) = valid_below g.R.TrackRule.fits (g.B.GapBound.value c.args.grounds.now.bound.now) c.args.grounds.now.pins.now c.args.grounds.now.limit c.args.grounds.now.kinds.now c.args.lemmas.now c.loop-at.at (omega (arith, c.loop-at-test.true)) c.loop-at.invariant.0 in
    record { within = c.loop-at-test.true; before = c.loop-at.invariant.0; unjustified = λ d j. both_ways _ c.if-not-branch.true ((c.in_ok-is_justified_at.ensures d valid).1 j) }

pub note-requires-clause-state : goal.note-requires-clause-state
note-requires-clause-state g c d =
    let valid : All (IsValid c.args.grounds.now.pins.now c.args.grounds.now.kinds.now) (take c.loop-at.at c.args.lemmas.now) = valid_below g.R.TrackRule.fits (g.B.GapBound.value c.args.grounds.now.bound.now) c.args.grounds.now.pins.now c.args.grounds.now.limit c.args.grounds.now.kinds.now c.args.lemmas.now c.loop-at.at (omega (arith, c.loop-at-test.true)) c.loop-at.invariant.0 in
    ((c.in_ok-is_justified_at.ensures d valid).0 c.if-not-branch.false).valid.state

pub loop-at-preserved : goal.loop-at-preserved
loop-at-preserved g c =
    let valid : All (IsValid c.args.grounds.now.pins.now c.args.grounds.now.kinds.now) (take c.loop-at.at c.args.lemmas.now) = valid_below g.R.TrackRule.fits (g.B.GapBound.value c.args.grounds.now.bound.now) c.args.grounds.now.pins.now c.args.grounds.now.limit c.args.grounds.now.kinds.now c.args.lemmas.now c.loop-at.at (omega (arith, c.loop-at-test.true)) c.loop-at.invariant.0 in (
      λ i d below.
          below_more
          (IsJustifiedBy g.R.TrackRule.fits (g.B.GapBound.value c.args.grounds.now.bound.now) c.args.grounds.now.pins.now
          c.args.grounds.now.limit c.args.grounds.now.kinds.now) c.args.lemmas.now c.loop-at.at d c.loop-at-test.true c.loop-at.invariant.0 ((c.in_ok-is_justified_at.ensures d valid).0 c.if-not-branch.false) i d below,
      c.in_ok-note.ensures,
    )

pub returns-clause-none : goal.returns-clause-none
returns-clause-none g c = λ i d below. c.loop-at.invariant.0 i d (omega (arith, below, c.loop-at-test.false))

pub returns-clause-noted : goal.returns-clause-noted
returns-clause-noted g c = subst (λ xs. AreNoted c.args.grounds.now.kinds.now xs c.loop-at.places) (take_all c.loop-at.at c.args.lemmas.now c.loop-at-test.false) c.loop-at.invariant.1
