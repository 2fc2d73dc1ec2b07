use Rattle.std.proofs.Common.{ap, arith, map, reverse, subst, sym, ◌∙◌}
use Rattle.row_state.specs.Steps.{column_of}
use Rattle.track_ways.specs.Paths.{EndsFit}
use Rattle.track_ways.proofs.Whole.{start_fits}
use Rattle.track_search.specs.First.{IsFirstRouted}
use Rattle.track_search.specs.Visit.{AreCovered}
use Rattle.track_search.proofs.Spent.{start_below, start_fresh, start_kept}
use Rattle.track_search.proofs.Starts.{certificate, first_row, start_ways}
use Rattle.track_search.proofs.limit.search_start.Goals as goal

pub visit-requires : goal.visit-requires
visit-requires g c = record {
  candidates = c.requires.candidates;
  all = c.requires.all;
  numbered = c.requires.numbered;
  ends = subst (EndsFit c.args.task.now.kinds.now) (sym c.requires.state) (start_fits c.args.task.now.kinds.now);
  ways = start_ways c.args.task.now.pins.now c.args.task.now.kinds.now c.args.first.now.state c.in_ok-ways.ways c.requires.state c.in_ok-ways.ensures;
  below = start_below c.args.task.now.limit c.in_ok-ways.ways c.in_ok-ways.ensures;
  fresh = start_fresh c.args.progress.now.lemmas c.args.first.now.state c.args.task.now.gaps c.in_ok-ways.ways c.requires.lemmas c.in_ok-ways.ensures;
  gaps = omega arith;
  trails = c.requires.trails;
  kept = start_kept g.R.TrackRule.fits (g.B.RowBound.value c.args.task.now.bound.now) c.args.task.now.pins.now c.args.task.now.limit c.args.task.now.kinds.now c.args.task.now.gaps c.args.task.now.budget c.args.progress.now c.requires.lemmas c.requires.noted;
}

pub returns-in-Some-clause-found : goal.returns-in-Some-clause-found
returns-in-Some-clause-found g c =
    let first : IsFirstRouted g.R.TrackRule.fits c.args.task.now.pins.now c.args.task.now.limit c.args.task.now.kinds.now c.args.first.now.state c.in_ok-ways.ways c.args.task.now.gaps (reverse c.in-Some.steps) = rw c.in-Some.is at c.in-Ok.ensures.first in
    first_row g.met.R.TrackRule.is_rule c.args.task.now.pins.now c.args.task.now.limit c.args.task.now.kinds.now c.args.first.now.state c.args.task.now.gaps c.in_ok-ways.ways (reverse c.in-Some.steps) c.in_ok-row.row c.show_limits.ensures c.requires.state c.in_ok-ways.ensures (c.in_ok-row.ensures ∙ ap (λ steps. map (column_of c.args.task.now.kinds.now) (reverse steps)) c.as_slice.ensures) first

pub returns-clause-none : goal.returns-clause-none
returns-clause-none g c =
    let covered : AreCovered c.visit.new.progress.lemmas c.args.first.now.state c.args.task.now.gaps c.in_ok-ways.ways = rw c.in_default.is at c.in-Ok.ensures.none in
    certificate g.R.TrackRule.fits (g.B.RowBound.value c.args.task.now.bound.now) c.args.task.now.pins.now c.args.task.now.limit c.args.task.now.kinds.now c.args.first.now.state c.args.task.now.gaps c.in_ok-ways.ways c.visit.new.progress.lemmas c.requires.state c.in_ok-ways.ensures c.in-Ok.ensures.grown.kept.kept.justified covered
