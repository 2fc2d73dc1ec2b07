use Rattle.std.proofs.Common.{subst, sym}
use Rattle.row_state.specs.Candidates.{AreCandidates}
use Rattle.track_check.specs.Touches.{AreTouches}
use Rattle.track_search.proofs.LeastBy.{end_refuted}
use Rattle.track_search.proofs.limit.search_limit_by.Goals as goal

pub search_task-requires : goal.search_task-requires
search_task-requires g c = record {
  candidates = subst (AreCandidates c.args.kinds.now) (sym c.as_slice.ensures) c.in_ok-candidates.ensures.candidates;
  all = subst (λ s. AreTouches c.args.kinds.now s c.touches-all.result) c.in_ok-first.ensures.state c.touches-all.ensures.touches;
  state = c.in_ok-first.ensures.state;
  numbered = c.in_ok-first.ensures.numbered;
  trails = c.new-trails.ensures (g.B.RowBound.trails_of c.args.bound.now) c.args.kinds.now;
}

pub returns-clause-refuted : goal.returns-clause-refuted
returns-clause-refuted g c = end_refuted g.met.R.TrackRule.is_rule (g.B.RowBound.value c.args.bound.now) c.args.pins.now c.args.limit c.args.kinds.now c.args.gaps c.in_ok-ended.ended c.show_limits.ensures (λ row s valid. g.met.B.RowBound.holds c.args.bound.now row s c.args.kinds.now c.show_limits.ensures valid) c.in_ok-ended.ensures.end
