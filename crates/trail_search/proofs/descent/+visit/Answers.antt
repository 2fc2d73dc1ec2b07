use Rattle.std.proofs.Common.{rules, ◌≡◌, ◌≤◌, ◌<◌, ◌+◌, ◌-◌, None, ap, arith, get_or, refl, sym, ◌∙◌}
use Rattle.std.proofs.lemmas.List.Elements.{All-nil}
use Rattle.row_state.specs.declared.candidate.Candidate.{Candidate}
use Rattle.row_state.specs.declared.state.State.{State}
use Rattle.row_state.specs.Completion.{Need}
use Rattle.row_state.specs.Start.{columns_left}
use Rattle.row_state.proofs.Calls.{fewer_after}
use Rattle.row_search.proofs.Visits.{some_left}
use Rattle.trail_search.specs.Visit.{AreTrue, IfSpent, IsFirstOf, IsSpent}
use Rattle.trail_search.proofs.Spent.{spent_behind, spent_bound, spent_halt, spent_in, spent_one, spent_same}
use Rattle.trail_search.proofs.Tried.{HasNone, found_behind, found_leaf, none_behind, none_dear, none_known, none_left, none_not, true_more}
use Rattle.trail_search.proofs.descent.+visit.Goals as goal

blank : Candidate
blank = record { step = record { p = None; n = None }; column = record { p = None; n = None }; rows = 0; ends = 0; p_from = 0; n_from = 0 }

pub returns-then-not-has_fingers-clause-found : goal.returns-then-not-has_fingers-clause-found
returns-then-not-has_fingers-clause-found t c = found_leaf c.args.task.now.kinds.now c.args.at.now.state c.args.allowed c.new.result c.has_fingers.result c.new.ensures (c.has_fingers.ensures c.args.task.now.kinds.now c.requires.numbered.valid) c.if-not-has_fingers.true

pub returns-then-branch-clause-known : goal.returns-then-branch-clause-known
returns-then-branch-clause-known t c = true_more c.args.task.now.kinds.now c.args.known.now c.note_at.new.self c.args.at.now (c.args.allowed + 1) c.requires.known c.requires.numbered (c.in_ok-exceeds_allowed.ensures.exceeds c.if-branch.true) c.in_ok-note_at.ensures.raised

pub loop-next-preserved-then-not-allows : goal.loop-next-preserved-then-not-allows
unfolding blank
loop-next-preserved-then-not-allows t c = (c.loop-next.invariant.0, c.loop-next.invariant.1, none_not c.args.task.now.kinds.now c.args.at.now.state c.args.allowed c.args.task.now.candidates.now c.loop-next.next-index blank c.allows.result c.loop-next.invariant.2 c.loop-next-test.true c.allows.ensures c.if-not-allows.true, c.loop-next.invariant.3, c.loop-next.invariant.4)

pub loop-next-preserved-then-allowed-cost : goal.loop-next-preserved-then-allowed-cost
unfolding blank
loop-next-preserved-then-allowed-cost t c = (
  c.loop-next.invariant.0,
  c.loop-next.invariant.1,
  none_dear c.args.task.now.kinds.now c.args.at.now.state c.args.allowed c.cost-cost.result
      c.args.task.now.candidates.now c.loop-next.next-index blank c.loop-next.invariant.2 c.loop-next-test.true
      (c.cost-cost.ensures c.args.task.now.kinds.now (c.requires.candidates.each c.loop-next.next-index blank
      c.loop-next-test.true)) c.if-allowed-cost.true,
  c.loop-next.invariant.3,
  c.loop-next.invariant.4,
)

pub loop-next-preserved-then-best_at-allowed : goal.loop-next-preserved-then-best_at-allowed
unfolding blank
loop-next-preserved-then-best_at-allowed t c = (
  c.loop-next.invariant.0,
  c.loop-next.invariant.1,
  none_known c.args.task.now.kinds.now c.args.at.now.state c.args.allowed c.cost-cost.result c.code_behind.result
      c.best_at.result c.loop-next.known c.args.task.now.candidates.now c.loop-next.next-index blank c.show_limits.ensures
      c.requires.numbered.valid c.loop-next.invariant.0 c.loop-next.invariant.2 c.loop-next-test.true
      (some_left c.allows.ensures c.if-not-allows.false) (c.cost-cost.ensures c.args.task.now.kinds.now
      (c.requires.candidates.each c.loop-next.next-index blank c.loop-next-test.true)) c.code_behind.ensures
      c.best_at.ensures c.if-best_at-allowed.true,
  c.loop-next.invariant.3,
  c.loop-next.invariant.4,
)

pub visit-requires : goal.visit-requires
unfolding blank
visit-requires t c =
    let fewer : columns_left c.args.task.now.kinds.now c.args.at.now.state ≡ columns_left c.args.task.now.kinds.now
    c.in_ok-behind.behind.state + 1 = fewer_after c.args.task.now.kinds.now c.args.at.now.state
    (get_or c.args.task.now.candidates.now c.loop-next.next-index blank).step c.show_limits.ensures
    (some_left c.allows.ensures c.if-not-allows.false) ∙ ap (λ (z : State). columns_left c.args.task.now.kinds.now z
    + 1) (sym c.in_ok-behind.ensures.state) in
    let less : columns_left c.args.task.now.kinds.now c.in_ok-behind.behind.state < columns_left c.args.task.now.kinds.now c.args.at.now.state = omega (arith, fewer) in
    let few : c.args.allowed - c.cost-cost.result ≤ 32 = omega (arith, c.requires.few) in
    let known : AreTrue c.args.task.now.kinds.now c.loop-next.known = c.loop-next.invariant.0 in
    search rules

pub returns-in-Some-clause-found : goal.returns-in-Some-clause-found
unfolding blank
returns-in-Some-clause-found t c =
    let inner : IsFirstOf c.args.task.now.kinds.now c.in_ok-behind.behind.state (c.args.allowed - c.cost-cost.result) c.in-Some.rest = rw c.in-Some.is at c.in-Ok.ensures.found in
    found_behind c.args.task.now.kinds.now c.args.at.now.state c.in_ok-behind.behind.state c.args.allowed
    c.cost-cost.result c.args.task.now.candidates.now c.loop-next.next-index blank c.in-Some.rest c.push.new.self
    c.show_limits.ensures (some_left (c.has_fingers.ensures c.args.task.now.kinds.now c.requires.numbered.valid)
    c.if-not-has_fingers.false) c.requires.candidates c.requires.numbered.valid c.loop-next-test.true
    (some_left c.allows.ensures c.if-not-allows.false) c.loop-next.invariant.2
    (c.cost-cost.ensures c.args.task.now.kinds.now (c.requires.candidates.each c.loop-next.next-index blank
    c.loop-next-test.true)) c.if-allowed-cost.false c.in_ok-behind.ensures.state inner c.in_ok-push.ensures.ok

pub loop-next-preserved : goal.loop-next-preserved
unfolding blank
loop-next-preserved t c =
    let failed : Need c.args.task.now.kinds.now c.in_ok-behind.behind.state (c.args.allowed - c.cost-cost.result + 1) = rw c.in_default.is at c.in-Ok.ensures.failed in
    let went : IsSpent c.args.task.now.kinds.now c.args.task.now.tries (columns_left c.args.task.now.kinds.now c.in_ok-behind.behind.state + 1) c.in_ok-behind.behind.state (c.args.allowed - c.cost-cost.result + 1) c.loop-next.known c.visit.new.known c.loop-next.left c.visit.new.left 0 = rw c.in_default.is at c.in-Ok.ensures.bounds in (
      c.in-Ok.ensures.known,
      omega (arith, c.in-Ok.ensures.left, c.loop-next.invariant.1),
      none_behind c.args.task.now.kinds.now c.args.at.now.state c.in_ok-behind.behind.state c.args.allowed
          c.cost-cost.result c.args.task.now.candidates.now c.loop-next.next-index blank c.loop-next.invariant.2
          c.loop-next-test.true (c.cost-cost.ensures c.args.task.now.kinds.now
          (c.requires.candidates.each c.loop-next.next-index blank c.loop-next-test.true)) c.in_ok-behind.ensures.state
          failed,
      spent_behind c.args.task.now.kinds.now c.args.task.now.tries c.args.at.now.state c.in_ok-behind.behind.state
          (get_or c.args.task.now.candidates.now c.loop-next.next-index blank).step c.cost-cost.result
          (c.args.allowed + 1) (c.args.allowed - c.cost-cost.result + 1) c.args.known.now c.loop-next.known
          c.visit.new.known c.args.left.now c.loop-next.left c.visit.new.left c.show_limits.ensures
          (some_left c.allows.ensures c.if-not-allows.false) c.in_ok-behind.ensures.state
          (c.cost-cost.ensures c.args.task.now.kinds.now (c.requires.candidates.each c.loop-next.next-index blank
          c.loop-next-test.true)) (omega (arith, c.if-allowed-cost.false)) c.loop-next.invariant.3 went,
      c.in-Ok.ensures.right,
    )

pub returns-clause-known : goal.returns-clause-known
returns-clause-known t c = true_more c.args.task.now.kinds.now c.loop-next.known c.note_at-2.new.self c.args.at.now
    (c.args.allowed + 1) c.loop-next.invariant.0 c.requires.numbered
    (none_left c.args.task.now.kinds.now c.args.at.now.state c.args.allowed c.loop-next.next-index
    c.args.task.now.candidates.now c.args.task.now.candidates.now c.requires.candidates c.requires.numbered.valid
    (some_left (c.has_fingers.ensures c.args.task.now.kinds.now c.requires.numbered.valid) c.if-not-has_fingers.false)
    refl c.loop-next-test.false c.loop-next.invariant.2) c.in_ok-note_at-2.ensures.raised

pub returns-clause-failed : goal.returns-clause-failed
returns-clause-failed t c = none_left c.args.task.now.kinds.now c.args.at.now.state c.args.allowed c.loop-next.next-index c.args.task.now.candidates.now c.args.task.now.candidates.now c.requires.candidates c.requires.numbered.valid (some_left (c.has_fingers.ensures c.args.task.now.kinds.now c.requires.numbered.valid) c.if-not-has_fingers.false) refl c.loop-next-test.false c.loop-next.invariant.2

pub returns-then-left-eq0-clause-spent : goal.returns-then-left-eq0-clause-spent
returns-then-left-eq0-clause-spent t c = spent_same c.args.task.now.kinds.now c.args.task.now.tries (columns_left c.args.task.now.kinds.now c.args.at.now.state + 1) c.args.at.now.state (c.args.allowed + 1) c.args.known.now c.args.left.now (columns_left c.args.task.now.kinds.now c.args.at.now.state)

pub returns-in_err-exceeds_allowed-clause-spent : goal.returns-in_err-exceeds_allowed-clause-spent
returns-in_err-exceeds_allowed-clause-spent t c =
    let told : IfSpent c.in_err-exceeds_allowed.field-0.0 (IsSpent c.args.task.now.kinds.now c.args.task.now.tries
    (columns_left c.args.task.now.kinds.now c.args.at.now.state + 1) c.args.at.now.state (c.args.allowed + 1)
    c.args.known.now c.args.known.now c.args.left.now c.exceeds_allowed.new.left
    (columns_left c.args.task.now.kinds.now c.args.at.now.state)) = spent_in c.args.task.now.kinds.now c.args.task.now.tries
    c.args.at.now.state (c.args.allowed + 1) c.args.known.now c.in_err-exceeds_allowed.field-0.0 c.args.left.now
    (c.args.left.now - 1) c.exceeds_allowed.new.left c.show_limits.ensures
    (some_left (c.has_fingers.ensures c.args.task.now.kinds.now c.requires.numbered.valid)
    c.if-not-has_fingers.false) (omega (arith, c.if-left-eq0.false)) c.in_err-exceeds_allowed.ensures.spent_tries in
    search rules

pub returns-then-branch-clause-bounds : goal.returns-then-branch-clause-bounds
returns-then-branch-clause-bounds t c = spent_bound c.args.task.now.kinds.now c.args.task.now.tries c.args.at.now.state (c.args.allowed + 1)
    c.args.known.now c.args.known.now c.note_at.new.self c.args.left.now c.exceeds_allowed.new.left
    c.requires.numbered.valid (c.in_ok-exceeds_allowed.ensures.exceeds c.if-branch.true)
    (omega (arith, c.requires.unknown)) (c.in_ok-note_at.ensures.raised c.args.task.now.kinds.now c.args.at.now.state
    c.requires.numbered.valid (sym c.requires.numbered.code)) (spent_one c.args.task.now.kinds.now c.args.task.now.tries
    (columns_left c.args.task.now.kinds.now c.args.at.now.state) c.args.at.now.state (c.args.allowed + 1)
    c.args.known.now c.args.left.now (c.args.left.now - 1) c.exceeds_allowed.new.left
    (omega (arith, c.if-left-eq0.false)) c.in_ok-exceeds_allowed.ensures.tries)

pub loop-next-init : goal.loop-next-init
loop-next-init t c = (
  c.requires.known,
  omega (arith, c.in_ok-exceeds_allowed.ensures.left),
  All-nil (HasNone c.args.task.now.kinds.now c.args.at.now.state c.args.allowed),
  spent_one c.args.task.now.kinds.now c.args.task.now.tries (columns_left c.args.task.now.kinds.now c.args.at.now.state) c.args.at.now.state
      (c.args.allowed + 1) c.args.known.now c.args.left.now (c.args.left.now - 1) c.exceeds_allowed.new.left
      (omega (arith, c.if-left-eq0.false)) c.in_ok-exceeds_allowed.ensures.tries,
  c.in_ok-exceeds_allowed.ensures.right,
)

pub returns-in-Err-clause-spent : goal.returns-in-Err-clause-spent
unfolding blank
returns-in-Err-clause-spent t c = spent_halt c.args.task.now.kinds.now c.args.task.now.tries c.args.at.now.state c.in_ok-behind.behind.state
    (get_or c.args.task.now.candidates.now c.loop-next.next-index blank).step c.cost-cost.result (c.args.allowed + 1)
    (c.args.allowed - c.cost-cost.result + 1) c.args.known.now c.loop-next.known c.visit.new.known c.in-Err.halt
    c.args.left.now c.loop-next.left c.visit.new.left c.show_limits.ensures
    (some_left c.allows.ensures c.if-not-allows.false) c.in_ok-behind.ensures.state
    (c.cost-cost.ensures c.args.task.now.kinds.now (c.requires.candidates.each c.loop-next.next-index blank
    c.loop-next-test.true)) (omega (arith, c.if-allowed-cost.false)) c.loop-next.invariant.3 c.in-Err.ensures.spent

pub returns-clause-bounds : goal.returns-clause-bounds
returns-clause-bounds t c = spent_bound c.args.task.now.kinds.now c.args.task.now.tries c.args.at.now.state (c.args.allowed + 1)
    c.args.known.now c.loop-next.known c.note_at-2.new.self c.args.left.now c.loop-next.left c.requires.numbered.valid
    (none_left c.args.task.now.kinds.now c.args.at.now.state c.args.allowed c.loop-next.next-index
    c.args.task.now.candidates.now c.args.task.now.candidates.now c.requires.candidates c.requires.numbered.valid
    (some_left (c.has_fingers.ensures c.args.task.now.kinds.now c.requires.numbered.valid) c.if-not-has_fingers.false)
    refl c.loop-next-test.false c.loop-next.invariant.2) (omega (arith, c.requires.unknown))
    (c.in_ok-note_at-2.ensures.raised c.args.task.now.kinds.now c.args.at.now.state c.requires.numbered.valid
    (sym c.requires.numbered.code)) c.loop-next.invariant.3
