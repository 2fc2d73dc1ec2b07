use Rattle.std.proofs.Common.{rules, All, None, ap, arith, get_or, subst, sym, take_all, ◌≡◌, ◌+◌, ◌<◌, ◌≤◌, ◌∙◌}
use Rattle.std.specs.HashMap.{hash_map_len}
use Rattle.std.proofs.lemmas.List.Elements.{All-get_or}
use Rattle.row_state.specs.declared.candidate.Candidate.{Candidate}
use Rattle.row_state.specs.declared.state.State.{State}
use Rattle.row_state.specs.Candidates.{AreCandidates, IsCandidate, IsNumbered}
use Rattle.row_state.specs.Start.{columns_left}
use Rattle.row_state.specs.Steps.{IsPossible}
use Rattle.row_state.proofs.Calls.{fewer_after}
use Rattle.row_needs.specs.Best.{HasNext}
use Rattle.row_needs.specs.Many.{IsLedTo}
use Rattle.row_needs.specs.Need.{IsNeed}
use Rattle.row_needs.specs.Rest.{AreRests, HasRest, IsClosed, ends_before}
use Rattle.row_needs.specs.Table.{AreLedTo}
use Rattle.row_needs.proofs.Led.{led_more, led_on, many_rests}
use Rattle.row_needs.proofs.Full.{below_add, below_on}
use Rattle.row_needs.proofs.Rests.{best_more, best_past, need_is, not_both}
use Rattle.row_needs.proofs.Tables.{closed_more, grown_more, grown_on, next_more, number_here}
use Rattle.row_needs.proofs.After.{HasAfter, after_same}
use Rattle.row_needs.proofs.needs.+need.Goals.{in-Some-after, in-None+in_ok-after-in-None+in_ok-gaps-in-None}
use Rattle.row_needs.proofs.needs.+need.Goals as goal

blank : Candidate
blank = record { step = record { p = None; n = None }; column = record { p = None; n = None }; rows = 0; ends = 0; p_from = 0; n_from = 0 }

pub loop-next-preserved-then-not-allows : goal.loop-next-preserved-then-not-allows
unfolding blank
loop-next-preserved-then-not-allows t c = (
  c.loop-next.invariant.0,
  c.loop-next.invariant.1,
  c.loop-next.invariant.2,
  next_more c.args.task.now.kinds.now c.args.at.now.state c.loop-next.needs c.loop-next.needs c.as_slice-next-items.result.now c.loop-next.next-index blank c.loop-next-test.true (λ s has. has) (λ possible. absurd (not_both c.allows.result (c.allows.ensures.1 possible) c.if-not-allows.true)) c.loop-next.invariant.3,
  c.loop-next.invariant.4,
  c.loop-next.invariant.5,
  c.loop-next.invariant.6,
  best_past c.args.task.now.kinds.now c.args.at.now.state c.as_slice-next-items.result.now c.loop-next.next-index blank c.loop-next.rest c.loop-next-test.true (λ possible. not_both c.allows.result (c.allows.ensures.1 possible) c.if-not-allows.true) c.loop-next.invariant.7,
)

pub need-requires : goal.need-requires
unfolding blank
need-requires t c =
    let possible : IsPossible c.args.task.now.kinds.now c.args.at.now.state (get_or c.as_slice-next-items.result.now c.loop-next.next-index blank).step = c.allows.ensures.0 c.if-not-allows.false in
    let fewer : columns_left c.args.task.now.kinds.now c.args.at.now.state ≡ columns_left c.args.task.now.kinds.now c.in_ok-after-in-None.after.state + 1 = fewer_after c.args.task.now.kinds.now c.args.at.now.state (get_or c.as_slice-next-items.result.now c.loop-next.next-index blank).step c.show_limits.ensures possible ∙ ap (λ (z : State). columns_left c.args.task.now.kinds.now z + 1) (sym c.in_ok-after-in-None.ensures.state) in
    let less : columns_left c.args.task.now.kinds.now c.in_ok-after-in-None.after.state < columns_left c.args.task.now.kinds.now c.args.at.now.state = omega (arith, fewer) in
    let few : columns_left c.args.task.now.kinds.now c.in_ok-after-in-None.after.state ≤ 32 = omega (arith, fewer, c.requires.few) in
    let numbered : IsNumbered c.args.task.now.kinds.now c.in_ok-after-in-None.after = c.in_ok-after-in-None.ensures.numbered in
    let sound : AreRests c.args.task.now.kinds.now c.loop-next.needs = c.loop-next.invariant.0 in
    let closed : IsClosed c.args.task.now.kinds.now c.loop-next.needs = c.loop-next.invariant.1 in
    let led : IsLedTo c.args.task.now.kinds.now c.in_ok-after-in-None.after.state = subst (IsLedTo c.args.task.now.kinds.now) (sym c.in_ok-after-in-None.ensures.state) (led_on c.args.task.now.kinds.now c.args.at.now.state (get_or c.as_slice-next-items.result.now c.loop-next.next-index blank).step c.requires.led possible) in
    let all_led : AreLedTo c.args.task.now.kinds.now c.loop-next.needs = c.loop-next.invariant.4 in
    let within : hash_map_len c.loop-next.needs.rests ≤ c.args.task.now.limit = c.loop-next.invariant.6 in
    search rules

pub loop-next-preserved : goal.loop-next-preserved
unfolding blank
loop-next-preserved t c =
    let possible : IsPossible c.args.task.now.kinds.now c.args.at.now.state (get_or c.as_slice-next-items.result.now c.loop-next.next-index blank).step = c.allows.ensures.0 c.if-not-allows.false in
    let known : HasAfter c.args.task.now.kinds.now c.args.at.now.state (get_or c.as_slice-next-items.result.now c.loop-next.next-index blank).step c.args.task.now.limit c.args.needs.now c.loop-next.needs c.match-after.needs c.match-after.gaps = elim c.match-after.branch [
      | in-Some-after w ↦ after_same c.args.task.now.kinds.now c.args.at.now.state (get_or c.as_slice-next-items.result.now c.loop-next.next-index blank).step c.args.task.now.limit c.args.needs.now c.loop-next.needs c.match-after.needs c.loop-next.needs c.match-after.gaps w.in-Some-after.gaps w.needs-is w.gaps-is (record {
        sound = c.loop-next.invariant.0;
        closed = c.loop-next.invariant.1;
        grown = λ s has. has;
        led = c.loop-next.invariant.4;
        below = c.loop-next.invariant.5;
        within = c.loop-next.invariant.6;
        here = w.in-Some-after.ensures.here;
        need = w.in-Some-after.ensures.need;
      })
      | in-None+in_ok-after-in-None+in_ok-gaps-in-None w ↦
          let fewer : columns_left c.args.task.now.kinds.now c.args.at.now.state ≡ columns_left c.args.task.now.kinds.now w.in_ok-after-in-None.after.state + 1 = fewer_after c.args.task.now.kinds.now c.args.at.now.state (get_or c.as_slice-next-items.result.now c.loop-next.next-index blank).step c.show_limits.ensures possible ∙ ap (λ (z : State). columns_left c.args.task.now.kinds.now z + 1) (sym w.in_ok-after-in-None.ensures.state) in
          after_same c.args.task.now.kinds.now c.args.at.now.state (get_or c.as_slice-next-items.result.now c.loop-next.next-index blank).step c.args.task.now.limit c.args.needs.now c.loop-next.needs c.match-after.needs w.need.new.needs c.match-after.gaps w.in_ok-gaps-in-None.gaps w.needs-is w.gaps-is (record {
            sound = w.in_ok-gaps-in-None.ensures.sound;
            closed = w.in_ok-gaps-in-None.ensures.closed;
            grown = w.in_ok-gaps-in-None.ensures.grown;
            led = w.in_ok-gaps-in-None.ensures.all_led;
            below = below_on c.args.task.now.kinds.now (columns_left c.args.task.now.kinds.now c.args.at.now.state) (columns_left c.args.task.now.kinds.now w.in_ok-after-in-None.after.state + 1) c.args.needs.now c.loop-next.needs w.need.new.needs c.loop-next.invariant.5 w.in_ok-gaps-in-None.ensures.below fewer;
            within = w.in_ok-gaps-in-None.ensures.within;
            here = subst (HasRest c.args.task.now.kinds.now w.need.new.needs) w.in_ok-after-in-None.ensures.state w.in_ok-gaps-in-None.ensures.here;
            need = subst (λ z. IsNeed c.args.task.now.kinds.now z w.in_ok-gaps-in-None.gaps) w.in_ok-after-in-None.ensures.state w.in_ok-gaps-in-None.ensures.need;
          })
    ] in
    let each : All (IsCandidate c.args.task.now.kinds.now) c.as_slice-next-items.result.now = subst (All (IsCandidate c.args.task.now.kinds.now)) (sym c.as_slice-next-items.ensures) c.requires.candidates.each in
    let here : IsCandidate c.args.task.now.kinds.now (get_or c.as_slice-next-items.result.now c.loop-next.next-index blank) = All-get_or (IsCandidate c.args.task.now.kinds.now) c.as_slice-next-items.result.now c.loop-next.next-index blank c.loop-next-test.true each in (
      known.sound,
      known.closed,
      grown_on c.args.task.now.kinds.now c.args.needs.now c.loop-next.needs c.match-after.needs c.loop-next.invariant.2 known.grown,
      next_more c.args.task.now.kinds.now c.args.at.now.state c.loop-next.needs c.match-after.needs c.as_slice-next-items.result.now c.loop-next.next-index blank c.loop-next-test.true known.grown (λ _. known.here) c.loop-next.invariant.3,
      known.led,
      known.below,
      known.within,
      best_more c.args.task.now.kinds.now c.args.at.now.state c.as_slice-next-items.result.now c.loop-next.next-index blank c.loop-next.rest c.take.new.self c.match-after.gaps c.before-in-loop-next.result c.show_limits.ensures c.loop-next-test.true possible known.need (c.before-in-loop-next.ensures ∙ ap ends_before here.column) c.in_ok-take.ensures c.loop-next.invariant.7,
    )

pub returns-clause-need : goal.returns-clause-need
returns-clause-need t c = subst (IsNeed c.args.task.now.kinds.now c.args.at.now.state) (sym c.need-need.ensures) (need_is c.args.task.now.kinds.now c.args.at.now.state c.in_ok-rest.rest c.in_ok-rest.ensures.rest)

pub returns-clause-closed : goal.returns-clause-closed
returns-clause-closed t c = closed_more c.args.task.now.kinds.now c.loop-next.needs c.add.new.self c.args.at.now.state c.args.at.now.counts c.in_ok-rest.rest c.as_slice-next-items.result.now c.requires.numbered.valid c.requires.numbered.counts (subst (AreCandidates c.args.task.now.kinds.now) (sym c.as_slice-next-items.ensures) c.requires.candidates) c.loop-next.invariant.1
    (subst (All (HasNext c.args.task.now.kinds.now c.args.at.now.state c.loop-next.needs)) (take_all c.loop-next.next-index c.as_slice-next-items.result.now c.loop-next-test.false) c.loop-next.invariant.3) c.in_ok-add.ensures.here c.in_ok-add.ensures.others

pub returns-clause-grown : goal.returns-clause-grown
returns-clause-grown t c = grown_on c.args.task.now.kinds.now c.args.needs.now c.loop-next.needs c.add.new.self c.loop-next.invariant.2 (grown_more c.args.task.now.kinds.now c.loop-next.needs c.add.new.self c.args.at.now.counts c.in_ok-rest.rest c.in_ok-add.ensures.here c.in_ok-add.ensures.others)

pub returns-clause-here : goal.returns-clause-here
returns-clause-here t c = number_here c.args.task.now.kinds.now c.add.new.self c.args.at.now.state c.args.at.now.counts c.in_ok-rest.rest c.requires.numbered.counts c.in_ok-add.ensures.here

pub returns-clause-all_led : goal.returns-clause-all_led
returns-clause-all_led t c = led_more c.args.task.now.kinds.now c.loop-next.needs c.add.new.self c.args.at.now.state c.args.at.now.counts c.requires.numbered.counts c.requires.led c.loop-next.invariant.4 c.in_ok-add.ensures.others

pub returns-clause-below : goal.returns-clause-below
returns-clause-below t c = below_add c.args.task.now.kinds.now c.args.needs.now c.loop-next.needs c.add.new.self c.args.at.now.state c.args.at.now.counts c.requires.numbered.valid c.requires.numbered.counts c.loop-next.invariant.5 c.in_ok-add.ensures.others

pub returns-clause-within : goal.returns-clause-within
returns-clause-within t c = omega (arith, c.in_ok-add.ensures.one_more, c.if-task-len.false, c.len.ensures.len)

pub returns-then-task-len-clause-spent : goal.returns-then-task-len-clause-spent
returns-then-task-len-clause-spent t c = λ _. many_rests c.args.task.now.kinds.now c.loop-next.needs c.args.at.now.state c.args.task.now.limit c.len.ensures.unique c.loop-next.invariant.4 c.requires.led (λ has. c.in_default.ensures.none (c.loop-next.invariant.5 c.args.at.now.state c.requires.numbered.valid (omega arith) has)) (omega (arith, c.if-task-len.true, c.len.ensures.len))
