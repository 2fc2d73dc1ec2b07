use Rattle.std.proofs.Common.{subst, sym}
use Rattle.row_state.specs.Candidates.{AreCandidates}
use Rattle.track_check.specs.Touches.{AreTouches}
use Rattle.track_search.proofs.LeastBy.{take_tracks}
use Rattle.track_search.proofs.fewest.fewest_tracks_by.Goals as goal

pub try_limits-requires : goal.try_limits-requires
try_limits-requires g c = record {
  candidates = subst (AreCandidates c.args.kinds.now) (sym c.as_slice.ensures) c.in_ok-candidates.ensures.candidates;
  all = subst (λ s. AreTouches c.args.kinds.now s c.touches-all.result) c.in_ok-first.ensures.state c.touches-all.ensures.touches;
  state = c.in_ok-first.ensures.state;
  numbered = c.in_ok-first.ensures.numbered;
  trails = c.new-trails.ensures (g.B.RowBound.trails_of c.args.bound.now) c.args.kinds.now;
}

pub returns-clause-take : goal.returns-clause-take
returns-clause-take g c = take_tracks g.met.R.TrackRule.is_rule (g.B.RowBound.value c.args.bound.now) c.args.pins.now c.args.kinds.now c.args.gaps c.in_ok-fewest.fewest c.show_limits.ensures (λ row s valid. g.met.B.RowBound.holds c.args.bound.now row s c.args.kinds.now c.show_limits.ensures valid) c.in_ok-fewest.ensures.fewest
