use Rattle.std.proofs.Common.{take}
use Rattle.track_check.specs.Noted.{AreNoted}
use Rattle.track_check.specs.Refusal.{AreJustifiedBelow}
use Rattle.track_check.proofs.check.first_unjustified.Given as goal

abbrev pub invariant-loop-at : goal.invariant-loop-at
invariant-loop-at g l =
    AreJustifiedBelow g.R.TrackRule.fits (g.B.GapBound.value l.grounds.bound.now) l.grounds.pins.now l.grounds.limit l.grounds.kinds.now l.lemmas l.at
    × AreNoted l.grounds.kinds.now (take l.at l.lemmas) l.places
