use Rattle.std.proofs.Common.{rules, ◌≡◌, ◌≤◌, ◌<◌, ◌+◌, ◌*◌, ◌++◌, [], ◌∷◌, Any, None, Option, Some, ap, arith, false, get_or, inr, map, refl, subst, sym, take, true, ◌∙◌}
use Rattle.std.specs.Prelude.{IfNone, IfSome, is_some}
use Rattle.std.proofs.lemmas.List.Elements.{All-nil}
use Rattle.std.proofs.lemmas.Bool.{both_ways}
use Rattle.row_state.specs.declared.candidate.Candidate.{Candidate}
use Rattle.row_state.specs.declared.state.State.{State}
use Rattle.row_state.specs.Candidates.{IsCandidate, IsNumbered}
use Rattle.row_state.specs.Start.{columns_left}
use Rattle.lemma_check.specs.Noted.{AreNoted}
use Rattle.track_ways.specs.Certificate.{CoversAll}
use Rattle.track_ways.specs.Paths.{EndsFit}
use Rattle.track_search.specs.Kept.{AreKeptBy}
use Rattle.track_search.specs.Uncrowded.{HasUncrowded}
use Rattle.track_search.specs.Visit.{ColumnFails, IsAhead, IsKept, kept_at}
use Rattle.track_search.proofs.Grown.{WaysFail, column_fails, grown_known, grown_on, grown_same, grown_through, grown_wider, kept_covers, kept_grown, kept_same, kept_sound, kept_spent, shut_fails, ways_fail_more}
use Rattle.track_search.proofs.Kept.{none_below, none_of_open}
use Rattle.track_search.proofs.Refuted.{none_fresh, one_covered}
use Rattle.track_search.proofs.Uncrowded.{uncrowded_through}
use Rattle.track_search.proofs.Ways.{Onward, onward}
use Rattle.track_search.proofs.closed.+closing.Goals as goal

blank : Candidate
blank = record { step = record { p = None; n = None }; column = record { p = None; n = None }; rows = 0; ends = 0; p_from = 0; n_from = 0 }

if_none : {X : Type 0} (P : Type 0) (x : Option X) → is_some x ≡ false → IfNone x P → P
if_none P None e p = p
if_none P (Some x) e p = absurd cc

if_some : {X : Type 0} (P : Type 0) (x : Option X) → is_some x ≡ true → IfSome x (λ y. P) → P
if_some P None e p = absurd cc
if_some P (Some x) e p = p

-- ---- closes

pub closes-returns-then-is_free-clause-grown : goal.closes-returns-then-is_free-clause-grown
closes-returns-then-is_free-clause-grown g t c = grown_same g.R.TrackRule.fits (g.B.RowBound.value c.args.task.now.bound.now) c.args.task.now.pins.now c.args.task.now.limit c.args.task.now.kinds.now c.args.task.now.gaps c.args.task.now.budget (columns_left c.args.task.now.kinds.now c.args.at.now.state + 1) c.args.progress.now c.args.progress.now c.requires.kept refl

pub closes-returns-then-is_closed-clause-grown : goal.closes-returns-then-is_closed-clause-grown
closes-returns-then-is_closed-clause-grown g t c = grown_same g.R.TrackRule.fits (g.B.RowBound.value c.args.task.now.bound.now) c.args.task.now.pins.now c.args.task.now.limit c.args.task.now.kinds.now c.args.task.now.gaps c.args.task.now.budget (columns_left c.args.task.now.kinds.now c.args.at.now.state + 1) c.args.progress.now c.args.progress.now c.requires.kept refl

pub closes-returns-then-branch-clause-grown : goal.closes-returns-then-branch-clause-grown
closes-returns-then-branch-clause-grown g t c = grown_same g.R.TrackRule.fits (g.B.RowBound.value c.args.task.now.bound.now) c.args.task.now.pins.now c.args.task.now.limit c.args.task.now.kinds.now c.args.task.now.gaps c.args.task.now.budget (columns_left c.args.task.now.kinds.now c.args.at.now.state + 1) c.args.progress.now c.note_free.new.self (kept_same g.R.TrackRule.fits (g.B.RowBound.value c.args.task.now.bound.now) c.args.task.now.pins.now c.args.task.now.limit c.args.task.now.kinds.now c.args.task.now.gaps c.args.task.now.budget c.args.progress.now c.note_free.new.self c.requires.kept c.note_free.ensures.lemmas c.in_ok-note_free.ensures.noted) c.note_free.ensures.lemmas

pub closes-note_free-requires-clause-free : goal.closes-note_free-requires-clause-free
closes-note_free-requires-clause-free g t c = c.in_ok-ends_open.ensures.yes c.if-branch.true c.args.allowed

pub closes-returns-then-branch-clause-free : goal.closes-returns-then-branch-clause-free
closes-returns-then-branch-clause-free g t c = λ e. c.in_ok-ends_open.ensures.yes c.if-branch.true c.args.allowed

pub closes-loop-next-init : goal.closes-loop-next-init
closes-loop-next-init g t c = (
  grown_same g.R.TrackRule.fits (g.B.RowBound.value c.args.task.now.bound.now) c.args.task.now.pins.now c.args.task.now.limit c.args.task.now.kinds.now c.args.task.now.gaps c.args.task.now.budget (columns_left c.args.task.now.kinds.now c.args.at.now.state) c.args.progress.now c.args.progress.now c.requires.kept refl,
  All-nil (WaysFail g.R.TrackRule.ways (g.B.RowBound.value c.args.task.now.bound.now) c.args.task.now.pins.now c.args.task.now.limit c.args.task.now.kinds.now c.args.progress.now.lemmas c.args.at.now.state c.args.allowed ([] ∷ [])),
  c.requires.trails,
)

pub closes-open_ahead-requires : goal.closes-open_ahead-requires
unfolding blank
closes-open_ahead-requires g t c κs within =
    let less : 2 * columns_left c.args.task.now.kinds.now c.args.at.now.state < 2 * columns_left c.args.task.now.kinds.now c.args.at.now.state + 1 = omega arith in
    let next : IsCandidate c.args.task.now.kinds.now (get_or c.args.task.now.candidates.now c.loop-next.next-index blank) = search rules in
    let kept : IsKept g.R.TrackRule.fits (g.B.RowBound.value c.args.task.now.bound.now) c.args.task.now.pins.now c.args.task.now.limit c.args.task.now.kinds.now c.args.task.now.gaps c.args.task.now.budget c.loop-next.progress = c.loop-next.invariant.0.kept in
    let trails : AreNoted (g.B.RowBound.trails_of c.args.task.now.bound.now) c.args.task.now.kinds.now c.loop-next.trails = c.loop-next.invariant.2 in
    search rules

pub closes-returns-then-is_some-clause-grown : goal.closes-returns-then-is_some-clause-grown
closes-returns-then-is_some-clause-grown g t c =
    grown_known g.R.TrackRule.fits (g.B.RowBound.value c.args.task.now.bound.now) c.args.task.now.pins.now c.args.task.now.limit c.args.task.now.kinds.now c.args.task.now.gaps c.args.task.now.budget (columns_left c.args.task.now.kinds.now c.args.at.now.state + 1) c.args.progress.now c.open_ahead.new.progress c.note_free-then-is_some.new.self
    (grown_wider g.R.TrackRule.fits (g.B.RowBound.value c.args.task.now.bound.now) c.args.task.now.pins.now c.args.task.now.limit c.args.task.now.kinds.now c.args.task.now.gaps c.args.task.now.budget (columns_left c.args.task.now.kinds.now c.args.at.now.state) (columns_left c.args.task.now.kinds.now c.args.at.now.state + 1) c.args.progress.now c.open_ahead.new.progress (omega arith) (grown_on g.R.TrackRule.fits (g.B.RowBound.value c.args.task.now.bound.now) c.args.task.now.pins.now c.args.task.now.limit c.args.task.now.kinds.now c.args.task.now.gaps c.args.task.now.budget (columns_left c.args.task.now.kinds.now c.args.at.now.state) c.args.progress.now c.loop-next.progress c.open_ahead.new.progress c.loop-next.invariant.0 c.in-Ok.ensures.grown))
    c.note_free-then-is_some.ensures.lemmas c.in_ok-note_free-2.ensures.noted

pub closes-note_free-requires-then-is_some-clause-free : goal.closes-note_free-requires-then-is_some-clause-free
closes-note_free-requires-then-is_some-clause-free g t c = if_some (HasUncrowded c.args.task.now.pins.now c.args.task.now.limit c.args.task.now.kinds.now c.args.at.now.state c.args.allowed) c.in-Ok.opened (sym c.is_some.ensures ∙ c.if-is_some.true) c.in-Ok.ensures.free

pub closes-returns-then-is_some-clause-free : goal.closes-returns-then-is_some-clause-free
closes-returns-then-is_some-clause-free g t c = λ e. if_some (HasUncrowded c.args.task.now.pins.now c.args.task.now.limit c.args.task.now.kinds.now c.args.at.now.state c.args.allowed) c.in-Ok.opened (sym c.is_some.ensures ∙ c.if-is_some.true) c.in-Ok.ensures.free

pub closes-loop-next-preserved : goal.closes-loop-next-preserved
unfolding blank
closes-loop-next-preserved g t c =
    let fails : ColumnFails g.R.TrackRule.ways (g.B.RowBound.value c.args.task.now.bound.now) c.args.task.now.pins.now c.args.task.now.limit c.args.task.now.kinds.now c.open_ahead.new.progress.lemmas c.args.at.now.state c.args.allowed (get_or c.args.task.now.candidates.now c.loop-next.next-index blank).step = if_none (ColumnFails g.R.TrackRule.ways (g.B.RowBound.value c.args.task.now.bound.now) c.args.task.now.pins.now c.args.task.now.limit c.args.task.now.kinds.now c.open_ahead.new.progress.lemmas c.args.at.now.state c.args.allowed (get_or c.args.task.now.candidates.now c.loop-next.next-index blank).step) c.in-Ok.opened (sym c.is_some.ensures ∙ c.if-is_some.false) c.in-Ok.ensures.none in (
      grown_on g.R.TrackRule.fits (g.B.RowBound.value c.args.task.now.bound.now) c.args.task.now.pins.now c.args.task.now.limit c.args.task.now.kinds.now c.args.task.now.gaps c.args.task.now.budget (columns_left c.args.task.now.kinds.now c.args.at.now.state) c.args.progress.now c.loop-next.progress c.open_ahead.new.progress c.loop-next.invariant.0 c.in-Ok.ensures.grown,
      column_fails g.R.TrackRule.ways (g.B.RowBound.value c.args.task.now.bound.now) c.args.task.now.pins.now c.args.task.now.limit c.args.task.now.kinds.now c.open_ahead.new.progress.lemmas c.args.at.now.state c.args.allowed ([] ∷ []) c.args.task.now.candidates.now c.loop-next.next-index blank c.loop-next-test.true
          (ways_fail_more g.R.TrackRule.ways (g.B.RowBound.value c.args.task.now.bound.now) c.args.task.now.pins.now c.args.task.now.limit c.args.task.now.kinds.now c.loop-next.progress.lemmas c.open_ahead.new.progress.lemmas c.in-Ok.ensures.grown.more c.args.at.now.state c.args.allowed ([] ∷ []) (take c.loop-next.next-index c.args.task.now.candidates.now) c.in-Ok.ensures.grown.is c.loop-next.invariant.1) fails,
      c.in-Ok.ensures.trails,
    )

pub closes-returns-in-Ok-keep_one-clause-grown : goal.closes-returns-in-Ok-keep_one-clause-grown
closes-returns-in-Ok-keep_one-clause-grown g t c =
    kept_grown g.R.TrackRule.fits (g.B.RowBound.value c.args.task.now.bound.now) c.args.task.now.pins.now c.args.task.now.limit c.args.task.now.kinds.now c.args.task.now.gaps c.args.task.now.budget c.args.progress.now c.loop-next.progress c.keep_one.new.self c.args.at.now.state c.args.allowed ([] ∷ []) c.loop-next.invariant.0
    (kept_sound g.met.R.TrackRule.is_rule (g.B.RowBound.value c.args.task.now.bound.now) c.args.task.now.pins.now c.args.task.now.limit c.args.task.now.kinds.now c.args.task.now.gaps c.args.task.now.budget c.args.progress.now c.loop-next.progress c.args.at.now.state c.args.allowed ([] ∷ []) c.args.task.now.candidates.now c.loop-next.next-index c.show_limits.ensures c.requires.candidates c.requires.numbered.valid c.requires.ends (none_of_open c.args.task.now.pins.now c.args.task.now.kinds.now c.args.at.now.state) (none_below c.args.task.now.limit)
    (none_fresh c.args.progress.now.lemmas c.args.at.now.state c.args.allowed (λ any. both_ways c.is_closed.result c.if-is_closed.false (c.is_closed.ensures.1 any))) c.requires.gaps c.loop-next-test.false c.loop-next.invariant.1 (c.in_ok-ends_open.ensures.no c.if-branch.false) c.loop-next.invariant.0)
    (c.in-Ok-keep_one.ensures.lemmas ∙ ap (λ w. c.loop-next.progress.lemmas ++ kept_at c.args.task.now.kinds.now.nets c.args.at.now.state c.args.allowed w ∷ []) c.new-none.ensures) c.in-Ok-keep_one.ensures.noted c.in-Ok-keep_one.ensures.few

pub closes-returns-in-Ok-keep_one-clause-closed : goal.closes-returns-in-Ok-keep_one-clause-closed
closes-returns-in-Ok-keep_one-clause-closed g t c = λ e.
    one_covered c.keep_one.new.self.lemmas c.args.at.now.state c.args.allowed
    (kept_covers c.args.task.now.pins.now c.args.task.now.kinds.now c.loop-next.progress.lemmas c.keep_one.new.self.lemmas c.args.at.now.state c.args.allowed ([] ∷ []) c.show_limits.ensures (none_of_open c.args.task.now.pins.now c.args.task.now.kinds.now c.args.at.now.state)
    (c.in-Ok-keep_one.ensures.lemmas ∙ ap (λ w. c.loop-next.progress.lemmas ++ kept_at c.args.task.now.kinds.now.nets c.args.at.now.state c.args.allowed w ∷ []) c.new-none.ensures))

pub closes-returns-clause-spent : goal.closes-returns-clause-spent
closes-returns-clause-spent g t c = λ e.
    let sound : AreKeptBy g.R.TrackRule.fits (g.B.RowBound.value c.args.task.now.bound.now) c.args.task.now.pins.now c.args.task.now.limit c.args.task.now.kinds.now c.args.task.now.gaps (c.loop-next.progress.lemmas ++ map (kept_at c.args.task.now.kinds.now.nets c.args.at.now.state c.args.allowed) ([] ∷ [])) = kept_sound g.met.R.TrackRule.is_rule (g.B.RowBound.value c.args.task.now.bound.now) c.args.task.now.pins.now c.args.task.now.limit c.args.task.now.kinds.now c.args.task.now.gaps c.args.task.now.budget c.args.progress.now c.loop-next.progress c.args.at.now.state c.args.allowed ([] ∷ []) c.args.task.now.candidates.now c.loop-next.next-index c.show_limits.ensures c.requires.candidates c.requires.numbered.valid c.requires.ends (none_of_open c.args.task.now.pins.now c.args.task.now.kinds.now c.args.at.now.state) (none_below c.args.task.now.limit)
    (none_fresh c.args.progress.now.lemmas c.args.at.now.state c.args.allowed (λ any. both_ways c.is_closed.result c.if-is_closed.false (c.is_closed.ensures.1 any))) c.requires.gaps c.loop-next-test.false c.loop-next.invariant.1 (c.in_ok-ends_open.ensures.no c.if-branch.false) c.loop-next.invariant.0 in
    kept_spent g.R.TrackRule.fits (g.B.RowBound.value c.args.task.now.bound.now) c.args.task.now.pins.now c.args.task.now.limit c.args.task.now.kinds.now c.args.task.now.gaps c.args.task.now.budget (c.loop-next.progress.lemmas ++ kept_at c.args.task.now.kinds.now.nets c.args.at.now.state c.args.allowed c.new-none.result ∷ []) c.keep_one.new.self.lemmas
    (subst (λ w. AreKeptBy g.R.TrackRule.fits (g.B.RowBound.value c.args.task.now.bound.now) c.args.task.now.pins.now c.args.task.now.limit c.args.task.now.kinds.now c.args.task.now.gaps (c.loop-next.progress.lemmas ++ kept_at c.args.task.now.kinds.now.nets c.args.at.now.state c.args.allowed w ∷ [])) (sym c.new-none.ensures) sound) (c.in-Err-keep_one.ensures.spent e)

-- ---- open_ahead

pub open_ahead-returns-in_default-clause-grown : goal.open_ahead-returns-in_default-clause-grown
open_ahead-returns-in_default-clause-grown g t c = grown_same g.R.TrackRule.fits (g.B.RowBound.value c.args.task.now.bound.now) c.args.task.now.pins.now c.args.task.now.limit c.args.task.now.kinds.now c.args.task.now.gaps c.args.task.now.budget (columns_left c.args.task.now.kinds.now c.args.at.now.state) c.args.progress.now c.state_ahead.new.progress c.in_ok-ahead.ensures.kept c.in_ok-ahead.ensures.lemmas

pub open_ahead-closes-requires : goal.open_ahead-closes-requires
open_ahead-closes-requires g t c κs within =
    let a : IsAhead c.args.task.now.pins.now c.args.task.now.limit c.args.task.now.kinds.now c.args.at.now.state c.args.allowed c.args.next.now.step c.in-Some.ahead = rw c.in-Some.is at c.in_ok-ahead.ensures.some in
    let on : Onward c.args.task.now.kinds.now c.args.at.now.state c.args.task.now.gaps c.in-Some.ahead = onward c.args.task.now.pins.now c.args.task.now.limit c.args.task.now.kinds.now c.args.at.now.state c.args.allowed c.args.task.now.gaps c.args.next.now.step c.in-Some.ahead c.show_limits.ensures c.requires.ends c.requires.gaps a in
    let less : 2 * columns_left c.args.task.now.kinds.now c.in-Some.ahead.state.state + 1 < 2 * columns_left c.args.task.now.kinds.now c.args.at.now.state = omega (arith, on.fewer) in
    let numbered : IsNumbered c.args.task.now.kinds.now c.in-Some.ahead.state = a.numbered in
    let ends : EndsFit c.args.task.now.kinds.now c.in-Some.ahead.state.state = on.ends in
    let gaps : c.in-Some.ahead.left ≤ c.args.task.now.gaps = on.gaps in
    let kept : IsKept g.R.TrackRule.fits (g.B.RowBound.value c.args.task.now.bound.now) c.args.task.now.pins.now c.args.task.now.limit c.args.task.now.kinds.now c.args.task.now.gaps c.args.task.now.budget c.state_ahead.new.progress = c.in_ok-ahead.ensures.kept in
    let trails : AreNoted (g.B.RowBound.trails_of c.args.task.now.bound.now) c.args.task.now.kinds.now c.state_ahead.new.trails = c.in_ok-ahead.ensures.trails in
    search rules

pub open_ahead-returns-then-closed-clause-grown : goal.open_ahead-returns-then-closed-clause-grown
open_ahead-returns-then-closed-clause-grown g t c =
    let a : IsAhead c.args.task.now.pins.now c.args.task.now.limit c.args.task.now.kinds.now c.args.at.now.state c.args.allowed c.args.next.now.step c.in-Some.ahead = rw c.in-Some.is at c.in_ok-ahead.ensures.some in
    let on : Onward c.args.task.now.kinds.now c.args.at.now.state c.args.task.now.gaps c.in-Some.ahead = onward c.args.task.now.pins.now c.args.task.now.limit c.args.task.now.kinds.now c.args.at.now.state c.args.allowed c.args.task.now.gaps c.args.next.now.step c.in-Some.ahead c.show_limits.ensures c.requires.ends c.requires.gaps a in
    grown_through g.R.TrackRule.fits (g.B.RowBound.value c.args.task.now.bound.now) c.args.task.now.pins.now c.args.task.now.limit c.args.task.now.kinds.now c.args.task.now.gaps c.args.task.now.budget (columns_left c.args.task.now.kinds.now c.args.at.now.state) (columns_left c.args.task.now.kinds.now c.in-Some.ahead.state.state) c.args.progress.now c.state_ahead.new.progress c.closes.new.progress on.fewer
    (grown_same g.R.TrackRule.fits (g.B.RowBound.value c.args.task.now.bound.now) c.args.task.now.pins.now c.args.task.now.limit c.args.task.now.kinds.now c.args.task.now.gaps c.args.task.now.budget (columns_left c.args.task.now.kinds.now c.args.at.now.state) c.args.progress.now c.state_ahead.new.progress c.in_ok-ahead.ensures.kept c.in_ok-ahead.ensures.lemmas) c.in-Ok.ensures.grown

pub open_ahead-returns-then-closed-clause-none : goal.open_ahead-returns-then-closed-clause-none
open_ahead-returns-then-closed-clause-none g t c =
    let a : IsAhead c.args.task.now.pins.now c.args.task.now.limit c.args.task.now.kinds.now c.args.at.now.state c.args.allowed c.args.next.now.step c.in-Some.ahead = rw c.in-Some.is at c.in_ok-ahead.ensures.some in
    shut_fails g.R.TrackRule.ways (g.B.RowBound.value c.args.task.now.bound.now) c.args.task.now.pins.now c.args.task.now.limit c.args.task.now.kinds.now c.closes.new.progress.lemmas c.args.at.now.state c.args.allowed c.in-Some.ahead.left c.args.next.now.step a.left (inr (subst (λ (z : State). Any (CoversAll z c.in-Some.ahead.left) c.closes.new.progress.lemmas) a.state (c.in-Ok.ensures.closed c.if-closed.true)))

pub open_ahead-returns-clause-grown : goal.open_ahead-returns-clause-grown
open_ahead-returns-clause-grown g t c =
    let a : IsAhead c.args.task.now.pins.now c.args.task.now.limit c.args.task.now.kinds.now c.args.at.now.state c.args.allowed c.args.next.now.step c.in-Some.ahead = rw c.in-Some.is at c.in_ok-ahead.ensures.some in
    let on : Onward c.args.task.now.kinds.now c.args.at.now.state c.args.task.now.gaps c.in-Some.ahead = onward c.args.task.now.pins.now c.args.task.now.limit c.args.task.now.kinds.now c.args.at.now.state c.args.allowed c.args.task.now.gaps c.args.next.now.step c.in-Some.ahead c.show_limits.ensures c.requires.ends c.requires.gaps a in
    grown_through g.R.TrackRule.fits (g.B.RowBound.value c.args.task.now.bound.now) c.args.task.now.pins.now c.args.task.now.limit c.args.task.now.kinds.now c.args.task.now.gaps c.args.task.now.budget (columns_left c.args.task.now.kinds.now c.args.at.now.state) (columns_left c.args.task.now.kinds.now c.in-Some.ahead.state.state) c.args.progress.now c.state_ahead.new.progress c.closes.new.progress on.fewer
    (grown_same g.R.TrackRule.fits (g.B.RowBound.value c.args.task.now.bound.now) c.args.task.now.pins.now c.args.task.now.limit c.args.task.now.kinds.now c.args.task.now.gaps c.args.task.now.budget (columns_left c.args.task.now.kinds.now c.args.at.now.state) c.args.progress.now c.state_ahead.new.progress c.in_ok-ahead.ensures.kept c.in_ok-ahead.ensures.lemmas) c.in-Ok.ensures.grown

pub open_ahead-returns-clause-some : goal.open_ahead-returns-clause-some
open_ahead-returns-clause-some g t c =
    let a : IsAhead c.args.task.now.pins.now c.args.task.now.limit c.args.task.now.kinds.now c.args.at.now.state c.args.allowed c.args.next.now.step c.in-Some.ahead = rw c.in-Some.is at c.in_ok-ahead.ensures.some in
    a

pub open_ahead-returns-clause-free : goal.open_ahead-returns-clause-free
open_ahead-returns-clause-free g t c =
    let a : IsAhead c.args.task.now.pins.now c.args.task.now.limit c.args.task.now.kinds.now c.args.at.now.state c.args.allowed c.args.next.now.step c.in-Some.ahead = rw c.in-Some.is at c.in_ok-ahead.ensures.some in
    uncrowded_through c.args.task.now.pins.now c.args.task.now.limit c.args.task.now.kinds.now c.args.at.now.state c.args.allowed c.args.next.now.step c.in-Some.ahead a (c.in-Ok.ensures.free c.if-closed.false)
