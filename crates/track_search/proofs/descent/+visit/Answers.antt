use Rattle.std.proofs.Common.{rules, ◌≤◌, ◌<◌, ◌+◌, ◌++◌, All, None, ap, arith, get_or, map, refl, reverse, subst, sym, take, ◌∙◌}
use Rattle.std.proofs.lemmas.List.Elements.{All-more, All-nil}
use Rattle.row_state.specs.declared.candidate.Candidate.{Candidate}
use Rattle.row_state.specs.Candidates.{IsNumbered}
use Rattle.row_state.specs.Start.{columns_left}
use Rattle.lemma_check.specs.Noted.{AreNoted}
use Rattle.track_ways.specs.Paths.{EndsFit}
use Rattle.track_check.specs.Noted.{AreNotedAt, state_of}
use Rattle.row_cycles.proofs.Noted.{noted_here}
use Rattle.track_search.specs.First.{IsFirstRouted}
use Rattle.track_search.specs.Kept.{AreKeptBy}
use Rattle.track_search.specs.Visit.{AreBelow, AreCovered, AreFresh, AreTaken, AreWaysAt, ColumnFails, IsAhead, IsKept, kept_at}
use Rattle.track_search.proofs.Found.{first_at_end, first_through}
use Rattle.track_search.proofs.Grown.{WaysFail, ahead_fails, column_fails, grown_above, grown_on, grown_same, grown_through, kept_covers, kept_grown, kept_sound, kept_spent, ways_fail_more}
use Rattle.track_search.proofs.Kept.{of_open, ways_below}
use Rattle.track_search.proofs.Ways.{Onward, onward, ways_after}
use Rattle.track_search.proofs.descent.+visit.Goals as goal

blank : Candidate
blank = record { step = record { p = None; n = None }; column = record { p = None; n = None }; rows = 0; ends = 0; p_from = 0; n_from = 0 }

pub returns-then-len-eq0-clause-grown : goal.returns-then-len-eq0-clause-grown
returns-then-len-eq0-clause-grown g t c = grown_same g.R.TrackRule.fits (g.B.RowBound.value c.args.task.now.bound.now) c.args.task.now.pins.now c.args.task.now.limit c.args.task.now.kinds.now c.args.task.now.gaps c.args.task.now.budget (columns_left c.args.task.now.kinds.now c.args.at.now.state + 1) c.args.progress.now c.args.progress.now c.requires.kept refl

pub returns-then-branch-clause-grown : goal.returns-then-branch-clause-grown
returns-then-branch-clause-grown g t c = grown_same g.R.TrackRule.fits (g.B.RowBound.value c.args.task.now.bound.now) c.args.task.now.pins.now c.args.task.now.limit c.args.task.now.kinds.now c.args.task.now.gaps c.args.task.now.budget (columns_left c.args.task.now.kinds.now c.args.at.now.state + 1) c.args.progress.now c.args.progress.now c.requires.kept refl

pub returns-then-branch-clause-first : goal.returns-then-branch-clause-first
returns-then-branch-clause-first g t c = first_at_end g.met.R.TrackRule.is_rule c.args.task.now.pins.now c.args.task.now.limit c.args.task.now.kinds.now c.args.at.now.state c.args.ways.now c.args.allowed c.new.result c.show_limits.ensures c.requires.numbered.valid c.requires.ways (c.in_ok-ends.ensures.yes c.if-branch.true) c.new.ensures

pub loop-next-init : goal.loop-next-init
loop-next-init g t c = (
  grown_same g.R.TrackRule.fits (g.B.RowBound.value c.args.task.now.bound.now) c.args.task.now.pins.now c.args.task.now.limit c.args.task.now.kinds.now c.args.task.now.gaps c.args.task.now.budget (columns_left c.args.task.now.kinds.now c.args.at.now.state) c.args.progress.now c.args.progress.now c.requires.kept refl,
  All-nil (WaysFail g.R.TrackRule.ways (g.B.RowBound.value c.args.task.now.bound.now) c.args.task.now.pins.now c.args.task.now.limit c.args.task.now.kinds.now c.args.progress.now.lemmas c.args.at.now.state c.args.allowed c.args.ways.now),
  c.requires.trails,
)

pub loop-next-preserved-in_default : goal.loop-next-preserved-in_default
unfolding blank
loop-next-preserved-in_default g t c =
    let fails : ColumnFails g.R.TrackRule.ways (g.B.RowBound.value c.args.task.now.bound.now) c.args.task.now.pins.now c.args.task.now.limit c.args.task.now.kinds.now c.open_ahead.new.progress.lemmas c.args.at.now.state c.args.allowed (get_or c.args.task.now.candidates.now c.loop-next.next-index blank).step = rw c.in_default.is at c.in-Ok.ensures.none in (
      grown_on g.R.TrackRule.fits (g.B.RowBound.value c.args.task.now.bound.now) c.args.task.now.pins.now c.args.task.now.limit c.args.task.now.kinds.now c.args.task.now.gaps c.args.task.now.budget (columns_left c.args.task.now.kinds.now c.args.at.now.state) c.args.progress.now c.loop-next.progress c.open_ahead.new.progress c.loop-next.invariant.0 c.in-Ok.ensures.grown,
      column_fails g.R.TrackRule.ways (g.B.RowBound.value c.args.task.now.bound.now) c.args.task.now.pins.now c.args.task.now.limit c.args.task.now.kinds.now c.open_ahead.new.progress.lemmas c.args.at.now.state c.args.allowed c.args.ways.now c.args.task.now.candidates.now c.loop-next.next-index blank c.loop-next-test.true
          (ways_fail_more g.R.TrackRule.ways (g.B.RowBound.value c.args.task.now.bound.now) c.args.task.now.pins.now c.args.task.now.limit c.args.task.now.kinds.now c.loop-next.progress.lemmas c.open_ahead.new.progress.lemmas c.in-Ok.ensures.grown.more c.args.at.now.state c.args.allowed c.args.ways.now (take c.loop-next.next-index c.args.task.now.candidates.now) c.in-Ok.ensures.grown.is c.loop-next.invariant.1) fails,
      c.in-Ok.ensures.trails,
    )

pub onward_ways-requires-clause-valid : goal.onward_ways-requires-clause-valid
unfolding blank
onward_ways-requires-clause-valid g t c =
    let a : IsAhead c.args.task.now.pins.now c.args.task.now.limit c.args.task.now.kinds.now c.args.at.now.state c.args.allowed (get_or c.args.task.now.candidates.now c.loop-next.next-index blank).step c.in-Some.ahead = rw c.in-Some.is at c.in-Ok.ensures.some in
    a.numbered.valid

pub onward_ways-requires-clause-after : goal.onward_ways-requires-clause-after
unfolding blank
onward_ways-requires-clause-after g t c =
    let a : IsAhead c.args.task.now.pins.now c.args.task.now.limit c.args.task.now.kinds.now c.args.at.now.state c.args.allowed (get_or c.args.task.now.candidates.now c.loop-next.next-index blank).step c.in-Some.ahead = rw c.in-Some.is at c.in-Ok.ensures.some in
    a.state

pub onward_ways-requires-clause-noted : goal.onward_ways-requires-clause-noted
unfolding blank
onward_ways-requires-clause-noted g t c =
    let a : IsAhead c.args.task.now.pins.now c.args.task.now.limit c.args.task.now.kinds.now c.args.at.now.state c.args.allowed (get_or c.args.task.now.candidates.now c.loop-next.next-index blank).step c.in-Some.ahead = rw c.in-Some.is at c.in-Ok.ensures.some in
    let here : AreNotedAt c.open_ahead.new.progress.lemmas c.open_ahead.new.progress.places c.in-Some.ahead.state = noted_here state_of c.args.task.now.kinds.now c.open_ahead.new.progress.lemmas c.open_ahead.new.progress.places c.in-Some.ahead.state a.numbered.code c.in-Ok.ensures.grown.kept.noted.places in
    subst (λ ls. AreNotedAt ls c.noted.result.places.now c.in-Some.ahead.state) (sym c.noted.ensures.lemmas) (subst (λ ps. AreNotedAt c.open_ahead.new.progress.lemmas ps c.in-Some.ahead.state) (sym c.noted.ensures.places) here)

pub visit-requires : goal.visit-requires
unfolding blank
visit-requires g t c κs within =
    let a : IsAhead c.args.task.now.pins.now c.args.task.now.limit c.args.task.now.kinds.now c.args.at.now.state c.args.allowed (get_or c.args.task.now.candidates.now c.loop-next.next-index blank).step c.in-Some.ahead = rw c.in-Some.is at c.in-Ok.ensures.some in
    let on : Onward c.args.task.now.kinds.now c.args.at.now.state c.args.task.now.gaps c.in-Some.ahead = onward c.args.task.now.pins.now c.args.task.now.limit c.args.task.now.kinds.now c.args.at.now.state c.args.allowed c.args.task.now.gaps (get_or c.args.task.now.candidates.now c.loop-next.next-index blank).step c.in-Some.ahead c.show_limits.ensures c.requires.ends c.requires.gaps a in
    let less : columns_left c.args.task.now.kinds.now c.in-Some.ahead.state.state < columns_left c.args.task.now.kinds.now c.args.at.now.state = omega (arith, on.fewer) in
    let numbered : IsNumbered c.args.task.now.kinds.now c.in-Some.ahead.state = a.numbered in
    let ends : EndsFit c.args.task.now.kinds.now c.in-Some.ahead.state.state = on.ends in
    let ways : AreWaysAt c.args.task.now.pins.now c.args.task.now.kinds.now c.in-Some.ahead.state.state c.in_ok-onward.onward = subst (λ z. AreWaysAt c.args.task.now.pins.now c.args.task.now.kinds.now z c.in_ok-onward.onward) (sym a.state) (ways_after g.met.R.TrackRule.is_rule c.args.task.now.pins.now c.args.task.now.limit c.args.task.now.kinds.now c.args.at.now.state (get_or c.args.task.now.candidates.now c.loop-next.next-index blank).step c.args.ways.now c.in_ok-onward.onward c.show_limits.ensures c.requires.numbered.valid c.requires.ends a.possible c.requires.ways c.in_ok-onward.ensures.from) in
    let below : All (AreBelow c.args.task.now.limit) c.in_ok-onward.onward = ways_below g.met.R.TrackRule.is_rule c.args.task.now.pins.now c.args.task.now.limit c.args.task.now.kinds.now c.args.at.now.state (get_or c.args.task.now.candidates.now c.loop-next.next-index blank).step c.args.ways.now c.in_ok-onward.onward c.show_limits.ensures c.requires.numbered.valid c.in_ok-onward.ensures.from in
    let fresh : AreFresh c.open_ahead.new.progress.lemmas c.in-Some.ahead.state.state c.in-Some.ahead.left c.in_ok-onward.onward = subst (λ ls. AreFresh ls c.in-Some.ahead.state.state c.in-Some.ahead.left c.in_ok-onward.onward) c.noted.ensures.lemmas c.in_ok-onward.ensures.fresh in
    let gaps : c.in-Some.ahead.left ≤ c.args.task.now.gaps = on.gaps in
    let kept : IsKept g.R.TrackRule.fits (g.B.RowBound.value c.args.task.now.bound.now) c.args.task.now.pins.now c.args.task.now.limit c.args.task.now.kinds.now c.args.task.now.gaps c.args.task.now.budget c.open_ahead.new.progress = c.in-Ok.ensures.grown.kept in
    let trails : AreNoted (g.B.RowBound.trails_of c.args.task.now.bound.now) c.args.task.now.kinds.now c.open_ahead.new.trails = c.in-Ok.ensures.trails in
    search rules

pub returns-in-Some-tried-clause-grown : goal.returns-in-Some-tried-clause-grown
unfolding blank
returns-in-Some-tried-clause-grown g t c =
    let a : IsAhead c.args.task.now.pins.now c.args.task.now.limit c.args.task.now.kinds.now c.args.at.now.state c.args.allowed (get_or c.args.task.now.candidates.now c.loop-next.next-index blank).step c.in-Some.ahead = rw c.in-Some.is at c.in-Ok.ensures.some in
    let on : Onward c.args.task.now.kinds.now c.args.at.now.state c.args.task.now.gaps c.in-Some.ahead = onward c.args.task.now.pins.now c.args.task.now.limit c.args.task.now.kinds.now c.args.at.now.state c.args.allowed c.args.task.now.gaps (get_or c.args.task.now.candidates.now c.loop-next.next-index blank).step c.in-Some.ahead c.show_limits.ensures c.requires.ends c.requires.gaps a in
    grown_above g.R.TrackRule.fits (g.B.RowBound.value c.args.task.now.bound.now) c.args.task.now.pins.now c.args.task.now.limit c.args.task.now.kinds.now c.args.task.now.gaps c.args.task.now.budget (columns_left c.args.task.now.kinds.now c.args.at.now.state) (columns_left c.args.task.now.kinds.now c.in-Some.ahead.state.state) c.args.progress.now c.open_ahead.new.progress c.visit.new.progress on.fewer
    (grown_on g.R.TrackRule.fits (g.B.RowBound.value c.args.task.now.bound.now) c.args.task.now.pins.now c.args.task.now.limit c.args.task.now.kinds.now c.args.task.now.gaps c.args.task.now.budget (columns_left c.args.task.now.kinds.now c.args.at.now.state) c.args.progress.now c.loop-next.progress c.open_ahead.new.progress c.loop-next.invariant.0 c.in-Ok.ensures.grown) c.in-Ok-visit.ensures.grown

pub returns-in-Some-tried-clause-first : goal.returns-in-Some-tried-clause-first
unfolding blank
returns-in-Some-tried-clause-first g t c =
    let a : IsAhead c.args.task.now.pins.now c.args.task.now.limit c.args.task.now.kinds.now c.args.at.now.state c.args.allowed (get_or c.args.task.now.candidates.now c.loop-next.next-index blank).step c.in-Some.ahead = rw c.in-Some.is at c.in-Ok.ensures.some in
    let first : IsFirstRouted g.R.TrackRule.fits c.args.task.now.pins.now c.args.task.now.limit c.args.task.now.kinds.now c.in-Some.ahead.state.state c.in_ok-onward.onward c.in-Some.ahead.left (reverse c.in-Some-tried.rest) = rw c.in-Some-tried.is at c.in-Ok-visit.ensures.first in
    let taken : All (AreTaken g.R.TrackRule.ways c.args.task.now.pins.now c.args.task.now.limit c.args.task.now.kinds.now c.open_ahead.new.progress.lemmas c.args.at.now.state (get_or c.args.task.now.candidates.now c.loop-next.next-index blank).step c.in-Some.ahead.state.state c.in-Some.ahead.left c.in_ok-onward.onward) c.args.ways.now = subst (λ ls. All (AreTaken g.R.TrackRule.ways c.args.task.now.pins.now c.args.task.now.limit c.args.task.now.kinds.now ls c.args.at.now.state (get_or c.args.task.now.candidates.now c.loop-next.next-index blank).step c.in-Some.ahead.state.state c.in-Some.ahead.left c.in_ok-onward.onward) c.args.ways.now) c.noted.ensures.lemmas c.in_ok-onward.ensures.taken in
    first_through g.met.R.TrackRule.is_rule (g.B.RowBound.value c.args.task.now.bound.now) c.args.task.now.pins.now c.args.task.now.limit c.args.task.now.kinds.now c.open_ahead.new.progress.lemmas c.args.at.now.state c.args.ways.now c.in_ok-onward.onward c.args.allowed c.in-Some.ahead c.args.task.now.candidates.now c.loop-next.next-index blank c.in-Some-tried.rest c.push.new.self c.show_limits.ensures (λ row s valid. g.met.B.RowBound.holds c.args.task.now.bound.now row s c.args.task.now.kinds.now c.show_limits.ensures valid) c.in-Ok.ensures.grown.kept.kept.justified c.requires.numbered.valid c.requires.candidates c.requires.ways
    (ways_after g.met.R.TrackRule.is_rule c.args.task.now.pins.now c.args.task.now.limit c.args.task.now.kinds.now c.args.at.now.state (get_or c.args.task.now.candidates.now c.loop-next.next-index blank).step c.args.ways.now c.in_ok-onward.onward c.show_limits.ensures c.requires.numbered.valid c.requires.ends a.possible c.requires.ways c.in_ok-onward.ensures.from)
    c.loop-next-test.true
    (ways_fail_more g.R.TrackRule.ways (g.B.RowBound.value c.args.task.now.bound.now) c.args.task.now.pins.now c.args.task.now.limit c.args.task.now.kinds.now c.loop-next.progress.lemmas c.open_ahead.new.progress.lemmas c.in-Ok.ensures.grown.more c.args.at.now.state c.args.allowed c.args.ways.now (take c.loop-next.next-index c.args.task.now.candidates.now) c.in-Ok.ensures.grown.is c.loop-next.invariant.1)
    a taken c.in_ok-onward.ensures.from first c.in_ok-push.ensures.ok

pub loop-next-preserved : goal.loop-next-preserved
unfolding blank
loop-next-preserved g t c =
    let a : IsAhead c.args.task.now.pins.now c.args.task.now.limit c.args.task.now.kinds.now c.args.at.now.state c.args.allowed (get_or c.args.task.now.candidates.now c.loop-next.next-index blank).step c.in-Some.ahead = rw c.in-Some.is at c.in-Ok.ensures.some in
    let on : Onward c.args.task.now.kinds.now c.args.at.now.state c.args.task.now.gaps c.in-Some.ahead = onward c.args.task.now.pins.now c.args.task.now.limit c.args.task.now.kinds.now c.args.at.now.state c.args.allowed c.args.task.now.gaps (get_or c.args.task.now.candidates.now c.loop-next.next-index blank).step c.in-Some.ahead c.show_limits.ensures c.requires.ends c.requires.gaps a in
    let covered : AreCovered c.visit.new.progress.lemmas c.in-Some.ahead.state.state c.in-Some.ahead.left c.in_ok-onward.onward = rw c.in_default-tried.is at c.in-Ok-visit.ensures.none in
    let taken : All (AreTaken g.R.TrackRule.ways c.args.task.now.pins.now c.args.task.now.limit c.args.task.now.kinds.now c.open_ahead.new.progress.lemmas c.args.at.now.state (get_or c.args.task.now.candidates.now c.loop-next.next-index blank).step c.in-Some.ahead.state.state c.in-Some.ahead.left c.in_ok-onward.onward) c.args.ways.now = subst (λ ls. All (AreTaken g.R.TrackRule.ways c.args.task.now.pins.now c.args.task.now.limit c.args.task.now.kinds.now ls c.args.at.now.state (get_or c.args.task.now.candidates.now c.loop-next.next-index blank).step c.in-Some.ahead.state.state c.in-Some.ahead.left c.in_ok-onward.onward) c.args.ways.now) c.noted.ensures.lemmas c.in_ok-onward.ensures.taken in (
      grown_through g.R.TrackRule.fits (g.B.RowBound.value c.args.task.now.bound.now) c.args.task.now.pins.now c.args.task.now.limit c.args.task.now.kinds.now c.args.task.now.gaps c.args.task.now.budget (columns_left c.args.task.now.kinds.now c.args.at.now.state) (columns_left c.args.task.now.kinds.now c.in-Some.ahead.state.state) c.args.progress.now c.open_ahead.new.progress c.visit.new.progress on.fewer
          (grown_on g.R.TrackRule.fits (g.B.RowBound.value c.args.task.now.bound.now) c.args.task.now.pins.now c.args.task.now.limit c.args.task.now.kinds.now c.args.task.now.gaps c.args.task.now.budget (columns_left c.args.task.now.kinds.now c.args.at.now.state) c.args.progress.now c.loop-next.progress c.open_ahead.new.progress c.loop-next.invariant.0 c.in-Ok.ensures.grown) c.in-Ok-visit.ensures.grown,
      All-more (WaysFail g.R.TrackRule.ways (g.B.RowBound.value c.args.task.now.bound.now) c.args.task.now.pins.now c.args.task.now.limit c.args.task.now.kinds.now c.visit.new.progress.lemmas c.args.at.now.state c.args.allowed c.args.ways.now) c.args.task.now.candidates.now c.loop-next.next-index blank c.loop-next-test.true
          (ways_fail_more g.R.TrackRule.ways (g.B.RowBound.value c.args.task.now.bound.now) c.args.task.now.pins.now c.args.task.now.limit c.args.task.now.kinds.now c.open_ahead.new.progress.lemmas c.visit.new.progress.lemmas c.in-Ok-visit.ensures.grown.more c.args.at.now.state c.args.allowed c.args.ways.now (take c.loop-next.next-index c.args.task.now.candidates.now) c.in-Ok-visit.ensures.grown.is
          (ways_fail_more g.R.TrackRule.ways (g.B.RowBound.value c.args.task.now.bound.now) c.args.task.now.pins.now c.args.task.now.limit c.args.task.now.kinds.now c.loop-next.progress.lemmas c.open_ahead.new.progress.lemmas c.in-Ok.ensures.grown.more c.args.at.now.state c.args.allowed c.args.ways.now (take c.loop-next.next-index c.args.task.now.candidates.now) c.in-Ok.ensures.grown.is c.loop-next.invariant.1))
          (ahead_fails g.R.TrackRule.ways (g.B.RowBound.value c.args.task.now.bound.now) c.args.task.now.pins.now c.args.task.now.limit c.args.task.now.kinds.now c.open_ahead.new.progress.lemmas c.visit.new.progress.lemmas c.in-Ok-visit.ensures.grown.more c.args.at.now.state c.args.allowed c.args.ways.now c.in_ok-onward.onward (get_or c.args.task.now.candidates.now c.loop-next.next-index blank).step c.in-Some.ahead c.in-Ok-visit.ensures.grown.is a taken covered),
      c.in-Ok-visit.ensures.trails,
    )

pub returns-in-Ok-keep-clause-grown : goal.returns-in-Ok-keep-clause-grown
returns-in-Ok-keep-clause-grown g t c =
    kept_grown g.R.TrackRule.fits (g.B.RowBound.value c.args.task.now.bound.now) c.args.task.now.pins.now c.args.task.now.limit c.args.task.now.kinds.now c.args.task.now.gaps c.args.task.now.budget c.args.progress.now c.loop-next.progress c.keep.new.self c.args.at.now.state c.args.allowed c.args.ways.now c.loop-next.invariant.0
    (kept_sound g.met.R.TrackRule.is_rule (g.B.RowBound.value c.args.task.now.bound.now) c.args.task.now.pins.now c.args.task.now.limit c.args.task.now.kinds.now c.args.task.now.gaps c.args.task.now.budget c.args.progress.now c.loop-next.progress c.args.at.now.state c.args.allowed c.args.ways.now c.args.task.now.candidates.now c.loop-next.next-index c.show_limits.ensures c.requires.candidates c.requires.numbered.valid c.requires.ends (of_open c.args.task.now.pins.now c.args.task.now.kinds.now c.args.at.now.state c.args.ways.now c.requires.ways) c.requires.below c.requires.fresh c.requires.gaps c.loop-next-test.false c.loop-next.invariant.1 (c.in_ok-ends.ensures.no c.if-branch.false) c.loop-next.invariant.0)
    (c.in-Ok-keep.ensures.lemmas ∙ ap (λ ws. c.loop-next.progress.lemmas ++ map (kept_at c.args.task.now.kinds.now.nets c.args.at.now.state c.args.allowed) ws) c.as_slice.ensures) c.in-Ok-keep.ensures.noted c.in-Ok-keep.ensures.few

pub returns-in-Ok-keep-clause-none : goal.returns-in-Ok-keep-clause-none
returns-in-Ok-keep-clause-none g t c =
    kept_covers c.args.task.now.pins.now c.args.task.now.kinds.now c.loop-next.progress.lemmas c.keep.new.self.lemmas c.args.at.now.state c.args.allowed c.args.ways.now c.show_limits.ensures (of_open c.args.task.now.pins.now c.args.task.now.kinds.now c.args.at.now.state c.args.ways.now c.requires.ways) (c.in-Ok-keep.ensures.lemmas ∙ ap (λ ws. c.loop-next.progress.lemmas ++ map (kept_at c.args.task.now.kinds.now.nets c.args.at.now.state c.args.allowed) ws) c.as_slice.ensures)

pub returns-in-Err-keep-clause-spent : goal.returns-in-Err-keep-clause-spent
returns-in-Err-keep-clause-spent g t c = λ e.
    let sound : AreKeptBy g.R.TrackRule.fits (g.B.RowBound.value c.args.task.now.bound.now) c.args.task.now.pins.now c.args.task.now.limit c.args.task.now.kinds.now c.args.task.now.gaps (c.loop-next.progress.lemmas ++ map (kept_at c.args.task.now.kinds.now.nets c.args.at.now.state c.args.allowed) c.args.ways.now) = kept_sound g.met.R.TrackRule.is_rule (g.B.RowBound.value c.args.task.now.bound.now) c.args.task.now.pins.now c.args.task.now.limit c.args.task.now.kinds.now c.args.task.now.gaps c.args.task.now.budget c.args.progress.now c.loop-next.progress c.args.at.now.state c.args.allowed c.args.ways.now c.args.task.now.candidates.now c.loop-next.next-index c.show_limits.ensures c.requires.candidates c.requires.numbered.valid c.requires.ends (of_open c.args.task.now.pins.now c.args.task.now.kinds.now c.args.at.now.state c.args.ways.now c.requires.ways) c.requires.below c.requires.fresh c.requires.gaps c.loop-next-test.false c.loop-next.invariant.1 (c.in_ok-ends.ensures.no c.if-branch.false) c.loop-next.invariant.0 in
    kept_spent g.R.TrackRule.fits (g.B.RowBound.value c.args.task.now.bound.now) c.args.task.now.pins.now c.args.task.now.limit c.args.task.now.kinds.now c.args.task.now.gaps c.args.task.now.budget (c.loop-next.progress.lemmas ++ map (kept_at c.args.task.now.kinds.now.nets c.args.at.now.state c.args.allowed) c.as_slice.result.now) c.keep.new.self.lemmas
    (subst (λ ws. AreKeptBy g.R.TrackRule.fits (g.B.RowBound.value c.args.task.now.bound.now) c.args.task.now.pins.now c.args.task.now.limit c.args.task.now.kinds.now c.args.task.now.gaps (c.loop-next.progress.lemmas ++ map (kept_at c.args.task.now.kinds.now.nets c.args.at.now.state c.args.allowed) ws)) (sym c.as_slice.ensures) sound) (c.in-Err-keep.ensures.spent e)
