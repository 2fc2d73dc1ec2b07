use Rattle.std.proofs.Common.{rules, [], ◌≡◌, ◌≤◌, ◌<◌, ◌+◌, ◌++◌, All, Any, None, ap, append-nil, arith, get_or, reverse, subst, sym, take, ◌∙◌}
use Rattle.std.proofs.lemmas.List.Elements.{All-get_or, All-nil}
use Rattle.row_state.specs.declared.candidate.Candidate.{Candidate}
use Rattle.row_state.specs.declared.state.State.{State}
use Rattle.row_state.specs.Candidates.{AreCandidates, IsCandidate, IsNumbered}
use Rattle.row_state.specs.Start.{columns_left}
use Rattle.row_state.proofs.Calls.{fewer_after}
use Rattle.row_cycles.specs.declared.lemma.CycleLemma.{CycleLemma}
use Rattle.row_cycles.specs.Above.{HasNets}
use Rattle.row_cycles.specs.Certificate.{Covers}
use Rattle.row_cycles.specs.Steps.{StepIsRefuted}
use Rattle.cycle_search.specs.Below.{IsAsked}
use Rattle.cycle_search.specs.Visit.{AreSame, IsAhead, IsFirstFree, IsKept, lemma_at}
use Rattle.cycle_search.specs.Ways.{AddsNeeded}
use Rattle.cycle_search.proofs.Free.{first_at_end, first_through}
use Rattle.cycle_search.proofs.Needs.{adds_all, adds_on}
use Rattle.cycle_search.proofs.Visited.{StepFails, ahead_fails, covers_follow, fail_push, fail_still, first_needed, follow_nets, follow_same, grown_none, grown_on, need_justified, steps_follow}
use Rattle.cycle_search.proofs.visit.+visit.Goals as goal

blank : Candidate
blank = record { step = record { p = None; n = None }; column = record { p = None; n = None }; rows = 0; ends = 0; p_from = 0; n_from = 0 }

pub returns-then-branch-clause-grown : goal.returns-then-branch-clause-grown
returns-then-branch-clause-grown g t c = grown_none c.args.progress.now

pub returns-then-branch-clause-first : goal.returns-then-branch-clause-first
returns-then-branch-clause-first g t c = first_at_end c.args.task.now.pins.now c.args.task.now.kinds.now c.args.at.now.state c.args.asked.now.pairs c.args.allowed c.new.result c.show_limits.ensures (c.in_ok-ends.ensures.yes c.if-branch.true) c.new.ensures

pub loop-next-init : goal.loop-next-init
loop-next-init g t c = (
  c.requires.kept,
  grown_none c.args.progress.now,
  first_needed c.args.asked.now.pairs c.new-need.result c.ends.new.need c.new-need.ensures c.in_ok-ends.ensures.adds,
  record {
    each = All-nil (StepFails (g.B.GapBound.value c.args.task.now.bound.now) c.args.task.now.pins.now c.args.task.now.kinds.now c.args.progress.now.lemmas c.args.at.now.state c.args.allowed c.ends.new.need);
    ends = c.in_ok-ends.ensures.no c.if-branch.false;
  },
)

pub state_ahead-requires-clause-next : goal.state_ahead-requires-clause-next
unfolding blank
state_ahead-requires-clause-next g t c = All-get_or (IsCandidate c.args.task.now.kinds.now) c.as_slice-next-items.result.now c.loop-next.next-index blank c.loop-next-test.true (subst (All (IsCandidate c.args.task.now.kinds.now)) (sym c.as_slice-next-items.ensures) c.requires.candidates.each)

pub loop-next-preserved-in_default : goal.loop-next-preserved-in_default
unfolding blank
loop-next-preserved-in_default g t c =
    let fails : StepIsRefuted (g.B.GapBound.value c.args.task.now.bound.now) c.args.task.now.pins.now c.args.task.now.kinds.now c.noted-known.result.lemmas.now (lemma_at c.args.at.now.state c.args.allowed c.state_ahead.new.need) (get_or c.as_slice-next-items.result.now c.loop-next.next-index blank).step = rw c.in_default.is at c.in_ok-ahead.ensures.none in (
      c.loop-next.invariant.0,
      c.loop-next.invariant.1,
      adds_all c.args.asked.now.pairs c.loop-next.need c.state_ahead.new.need c.loop-next.invariant.2 c.in_ok-ahead.ensures.adds,
      fail_push (g.B.GapBound.value c.args.task.now.bound.now) c.args.task.now.pins.now c.args.task.now.kinds.now c.loop-next.progress.lemmas c.args.at.now.state c.args.allowed c.state_ahead.new.need c.as_slice-next-items.result.now c.loop-next.next-index blank c.loop-next-test.true
          (fail_still (g.B.GapBound.value c.args.task.now.bound.now) c.args.task.now.pins.now c.args.task.now.kinds.now c.loop-next.progress.lemmas c.loop-next.progress.lemmas [] c.args.at.now.state c.args.allowed c.args.asked.now.pairs c.loop-next.need c.state_ahead.new.need (take c.loop-next.next-index c.as_slice-next-items.result.now) (sym (append-nil c.loop-next.progress.lemmas)) c.in_ok-ahead.ensures.adds c.loop-next.invariant.3)
          (subst (λ ls. StepIsRefuted (g.B.GapBound.value c.args.task.now.bound.now) c.args.task.now.pins.now c.args.task.now.kinds.now ls (lemma_at c.args.at.now.state c.args.allowed c.state_ahead.new.need) (get_or c.as_slice-next-items.result.now c.loop-next.next-index blank).step) c.noted-known.ensures.lemmas fails),
    )

pub visit-requires : goal.visit-requires
unfolding blank
visit-requires g t c κs within =
    let a : IsAhead c.args.task.now.pins.now c.args.task.now.kinds.now c.args.at.now.state c.args.asked.now.pairs c.args.allowed (get_or c.as_slice-next-items.result.now c.loop-next.next-index blank).step c.in-Some.ahead = rw c.in-Some.is at c.in_ok-ahead.ensures.some in
    let fewer : columns_left c.args.task.now.kinds.now c.args.at.now.state ≡ columns_left c.args.task.now.kinds.now c.in-Some.ahead.state.state + 1 = fewer_after c.args.task.now.kinds.now c.args.at.now.state (get_or c.as_slice-next-items.result.now c.loop-next.next-index blank).step c.show_limits.ensures a.possible ∙ ap (λ (z : State). columns_left c.args.task.now.kinds.now z + 1) (sym a.is.state) in
    let less : columns_left c.args.task.now.kinds.now c.in-Some.ahead.state.state < columns_left c.args.task.now.kinds.now c.args.at.now.state = omega (arith, fewer) in
    let numbered : IsNumbered c.args.task.now.kinds.now c.in-Some.ahead.state = a.is.numbered in
    let asked : IsAsked c.args.task.now.kinds.now.nets c.in-Some.ahead.asked = a.is.asked in
    let gaps : c.in-Some.ahead.left ≤ c.args.task.now.gaps = omega (arith, a.left, c.requires.gaps) in
    let kept : IsKept (g.B.GapBound.value c.args.task.now.bound.now) c.args.task.now.pins.now c.args.task.now.kinds.now c.args.task.now.gaps c.args.task.now.budget c.loop-next.progress = c.loop-next.invariant.0 in
    search rules

pub returns-in-Some-tried-clause-grown : goal.returns-in-Some-tried-clause-grown
returns-in-Some-tried-clause-grown g t c = grown_on c.args.progress.now c.loop-next.progress c.visit.new.progress c.loop-next.invariant.1 c.in-Ok.ensures.grown

pub returns-in-Some-tried-clause-first : goal.returns-in-Some-tried-clause-first
unfolding blank
returns-in-Some-tried-clause-first g t c =
    let a : IsAhead c.args.task.now.pins.now c.args.task.now.kinds.now c.args.at.now.state c.args.asked.now.pairs c.args.allowed (get_or c.as_slice-next-items.result.now c.loop-next.next-index blank).step c.in-Some.ahead = rw c.in-Some.is at c.in_ok-ahead.ensures.some in
    let first : IsFirstFree c.args.task.now.pins.now c.args.task.now.kinds.now c.in-Some.ahead.state.state c.in-Some.ahead.asked.pairs c.in-Some.ahead.left (reverse c.in-Some-tried.rest) = rw c.in-Some-tried.is at c.in-Ok.ensures.first in
    first_through (g.B.GapBound.value c.args.task.now.bound.now) c.args.task.now.pins.now c.args.task.now.kinds.now c.loop-next.progress.lemmas c.args.at.now.state c.args.asked.now.pairs c.args.allowed c.in-Some.ahead c.as_slice-next-items.result.now c.loop-next.next-index blank c.in-Some-tried.rest c.push.new.self c.show_limits.ensures (λ row s valid. c.show_holds.ensures row s c.args.task.now.kinds.now c.show_limits.ensures valid) (c.cycles_by_lemmas.ensures.lemmas c.args.task.now.pins.now c.args.task.now.kinds.now c.loop-next.progress.lemmas c.show_limits.ensures c.loop-next.invariant.0.kept.justified) c.requires.numbered.valid (subst (AreCandidates c.args.task.now.kinds.now) (sym c.as_slice-next-items.ensures) c.requires.candidates) c.loop-next-test.true
    (steps_follow (g.B.GapBound.value c.args.task.now.bound.now) c.args.task.now.pins.now c.args.task.now.kinds.now c.loop-next.progress.lemmas c.args.at.now.state c.args.allowed c.loop-next.need c.args.asked.now.pairs (take c.loop-next.next-index c.as_slice-next-items.result.now) c.loop-next.invariant.2 c.loop-next.invariant.3.each) a first c.in_ok-push.ensures.ok

pub add_failed-requires : goal.add_failed-requires
unfolding blank
add_failed-requires g t c =
    let a : IsAhead c.args.task.now.pins.now c.args.task.now.kinds.now c.args.at.now.state c.args.asked.now.pairs c.args.allowed (get_or c.as_slice-next-items.result.now c.loop-next.next-index blank).step c.in-Some.ahead = rw c.in-Some.is at c.in_ok-ahead.ensures.some in
    let any : Any (Covers c.in-Some.ahead.state.state c.in-Some.ahead.left c.in-Some.ahead.asked.pairs) c.visit.new.progress.lemmas = rw c.in_default-tried.is at c.in-Ok.ensures.none in
    record {
      sound = c.requires.asked.sound;
      onward = a.is.onward ∙ ap (λ ps. c.args.asked.now.pairs ++ ps) (sym a.is.new);
      covered = subst (Any (Covers c.in-Some.ahead.state.state c.in-Some.ahead.left c.in-Some.ahead.asked.pairs)) (sym c.noted-grown.ensures.lemmas) any;
    }

pub loop-next-preserved : goal.loop-next-preserved
unfolding blank
loop-next-preserved g t c =
    let a : IsAhead c.args.task.now.pins.now c.args.task.now.kinds.now c.args.at.now.state c.args.asked.now.pairs c.args.allowed (get_or c.as_slice-next-items.result.now c.loop-next.next-index blank).step c.in-Some.ahead = rw c.in-Some.is at c.in_ok-ahead.ensures.some in
    let any : Any (Covers c.in-Some.ahead.state.state c.in-Some.ahead.left (c.add_failed.new.need ++ c.in-Some.ahead.new)) c.visit.new.progress.lemmas = subst (Any (Covers c.in-Some.ahead.state.state c.in-Some.ahead.left (c.add_failed.new.need ++ c.in-Some.ahead.new))) c.noted-grown.ensures.lemmas c.in_ok-add_failed.ensures.covers in
    let adds : AddsNeeded c.args.asked.now.pairs c.loop-next.need c.add_failed.new.need = adds_on c.args.asked.now.pairs c.loop-next.need c.state_ahead.new.need c.add_failed.new.need c.in_ok-ahead.ensures.adds c.in_ok-add_failed.ensures.adds in (
      c.in-Ok.ensures.kept,
      grown_on c.args.progress.now c.loop-next.progress c.visit.new.progress c.loop-next.invariant.1 c.in-Ok.ensures.grown,
      adds_all c.args.asked.now.pairs c.loop-next.need c.add_failed.new.need c.loop-next.invariant.2 adds,
      fail_push (g.B.GapBound.value c.args.task.now.bound.now) c.args.task.now.pins.now c.args.task.now.kinds.now c.visit.new.progress.lemmas c.args.at.now.state c.args.allowed c.add_failed.new.need c.as_slice-next-items.result.now c.loop-next.next-index blank c.loop-next-test.true
          (fail_still (g.B.GapBound.value c.args.task.now.bound.now) c.args.task.now.pins.now c.args.task.now.kinds.now c.loop-next.progress.lemmas c.visit.new.progress.lemmas c.in-Ok.ensures.grown.more c.args.at.now.state c.args.allowed c.args.asked.now.pairs c.loop-next.need c.add_failed.new.need (take c.loop-next.next-index c.as_slice-next-items.result.now) c.in-Ok.ensures.grown.is adds c.loop-next.invariant.3)
          (ahead_fails (g.B.GapBound.value c.args.task.now.bound.now) c.args.task.now.pins.now c.args.task.now.kinds.now c.visit.new.progress.lemmas c.args.at.now.state c.args.allowed c.args.asked.now.pairs c.add_failed.new.need (get_or c.as_slice-next-items.result.now c.loop-next.next-index blank).step c.in-Some.ahead a any),
    )

pub lemma_of-requires-clause-nets : goal.lemma_of-requires-clause-nets
lemma_of-requires-clause-nets g t c = subst (All (HasNets c.args.task.now.kinds.now.nets)) (sym c.as_slice.ensures) (follow_nets c.args.task.now.kinds.now.nets c.args.asked.now.pairs c.loop-next.need c.requires.asked.few c.loop-next.invariant.2)

pub keep-requires-clause-state : goal.keep-requires-clause-state
keep-requires-clause-state g t c = ap (λ (l : CycleLemma). l.state) c.in_ok-lemma.ensures.is

pub keep-requires-clause-justified : goal.keep-requires-clause-justified
keep-requires-clause-justified g t c =
    need_justified (g.B.GapBound.value c.args.task.now.bound.now) c.args.task.now.pins.now c.args.task.now.kinds.now c.loop-next.progress.lemmas c.args.at.now.state c.args.allowed c.loop-next.need c.as_slice-next-items.result.now c.loop-next.next-index c.in_ok-lemma.lemma (subst (AreCandidates c.args.task.now.kinds.now) (sym c.as_slice-next-items.ensures) c.requires.candidates) c.requires.numbered.valid
    (follow_nets c.args.task.now.kinds.now.nets c.args.asked.now.pairs c.loop-next.need c.requires.asked.few c.loop-next.invariant.2) c.loop-next-test.false c.loop-next.invariant.3 c.in_ok-lemma.ensures.is
    (subst (λ ps. AreSame ps c.in_ok-lemma.lemma.above) c.as_slice.ensures c.in_ok-lemma.ensures.same) c.in_ok-lemma.ensures.within.nets

pub returns-in-Ok-keep-clause-grown : goal.returns-in-Ok-keep-clause-grown
returns-in-Ok-keep-clause-grown g t c = grown_on c.args.progress.now c.loop-next.progress c.keep.new.self c.loop-next.invariant.1 c.in-Ok-keep.ensures.grown

pub returns-in-Ok-keep-clause-none : goal.returns-in-Ok-keep-clause-none
returns-in-Ok-keep-clause-none g t c = covers_follow c.keep.new.self.lemmas c.args.at.now.state c.args.allowed c.args.asked.now.pairs c.in_ok-lemma.lemma c.in_ok-lemma.ensures.is
    (follow_same c.args.asked.now.pairs c.loop-next.need c.in_ok-lemma.lemma.above (subst (λ ps. AreSame ps c.in_ok-lemma.lemma.above) c.as_slice.ensures c.in_ok-lemma.ensures.same) c.loop-next.invariant.2) c.in-Ok-keep.ensures.covered
