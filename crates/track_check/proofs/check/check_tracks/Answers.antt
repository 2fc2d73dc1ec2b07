use Rattle.track_ways.proofs.Sound.{certified}
use Rattle.track_check.proofs.check.check_tracks.Goals as goal

pub returns-clause-more : goal.returns-clause-more
returns-clause-more g c = λ f row r kinds is few legal.
    certified (g.B.GapBound.value c.args.bound.now) c.args.pins.now f c.args.kinds.now c.args.limit c.args.gaps c.args.lemmas.now (λ row s state. c.show_holds.ensures row s c.args.kinds.now c.show_limits.ensures state) kinds c.show_limits.ensures c.in_ok-check_tracks_by.ensures.certified row r is few legal
