use Rattle.std.proofs.Common.{rules, ◌+◌, ◌-◌, ◌<◌, ◌≤◌, ap, arith, drop, length, option_copied, slice_get, sym, take, ◌∙◌}
use Rattle.std.proofs.lemmas.Option.{slice_get_within}
use Rattle.trail_check.specs.Listed.{nodes_of}
use Rattle.trail_search.specs.Search.{IsStateOf}
use Rattle.trail_search.specs.Units.{path_units, units_at}
use Rattle.cell_num.proofs.Lists.{all_at}
use Rattle.trail_state.specs.declared.level.Level.{Level}
use Rattle.trail_search.proofs.Grown.{IsChoice, all_fail, choice_at, fails_dear, fails_known, fails_odd, fails_still, further_then, state_behind}
use Rattle.trail_search.proofs.Ends.{choice_open, leaf_open}
use Rattle.trail_search.proofs.New.{stay_behind, unknown_still}
use Rattle.trail_search.proofs.Reached.{within_more, within_then}
use Rattle.trail_search.proofs.Tied.{path_next, tied_behind, tied_kept, tied_leaf, tied_still, tied_thrown}
use Rattle.trail_search.proofs.visit.+visit.Goals as goal

pub loop-choice-preserved-then-allowed-settled : goal.loop-choice-preserved-then-allowed-settled
loop-choice-preserved-then-allowed-settled t c =
    let choice : IsChoice c.in-Some.level.now c.args.state.now c.as_slice-choice-items.result.now c.loop-choice.choice-index c.in_ok-settled.settled.state c.in_ok-settled.settled.ends = choice_at c.loop-choice-test.true c.choice-item.is c.in_ok-settled.ensures.state c.in_ok-settled.ensures.ends in (
      c.loop-choice.invariant.0,
      c.loop-choice.invariant.1,
      fails_dear c.loop-choice.kept.lemmas c.in-Some.level.now
          c.args.done c.args.state.now c.in_ok-settled.settled.state c.args.allowed c.in_ok-settled.settled.ends
          c.as_slice-choice-items.result.now c.loop-choice.choice-index choice c.if-allowed-settled.true
          c.loop-choice.invariant.2,
      c.loop-choice.invariant.3,
      c.loop-choice.invariant.4,
      c.loop-choice.invariant.5,
    )

pub loop-choice-preserved-then-exceeds : goal.loop-choice-preserved-then-exceeds
loop-choice-preserved-then-exceeds t c = (
  c.loop-choice.invariant.0,
  c.loop-choice.invariant.1,
  fails_odd c.loop-choice.kept.lemmas c.in-Some.level.now
      c.args.done c.args.state.now c.args.allowed c.in_ok-closing.closing c.as_slice-choice-items.result.now
      c.loop-choice.choice-index c.choice-item.result c.loop-choice-test.true c.choice-item.is c.in_ok-closing.ensures
      (c.exceeds.ensures c.if-exceeds.true) c.loop-choice.invariant.2,
  c.loop-choice.invariant.3,
  c.loop-choice.invariant.4,
  c.loop-choice.invariant.5,
)

pub loop-choice-preserved-then-knows : goal.loop-choice-preserved-then-knows
loop-choice-preserved-then-knows t c =
    let choice : IsChoice c.in-Some.level.now c.args.state.now c.as_slice-choice-items.result.now c.loop-choice.choice-index c.in_ok-settled.settled.state c.in_ok-settled.settled.ends = choice_at c.loop-choice-test.true c.choice-item.is c.in_ok-settled.ensures.state c.in_ok-settled.ensures.ends in (
      c.loop-choice.invariant.0,
      c.loop-choice.invariant.1,
      fails_known c.loop-choice.kept.lemmas c.in-Some.level.now
          c.args.done c.args.state.now c.in_ok-settled.settled.state c.args.allowed c.in_ok-settled.settled.ends
          c.as_slice-choice-items.result.now c.loop-choice.choice-index choice c.if-allowed-settled.false (search rules)
          c.loop-choice.invariant.2,
      c.loop-choice.invariant.3,
      c.loop-choice.invariant.4,
      c.loop-choice.invariant.5,
    )

pub loop-choice-preserved : goal.loop-choice-preserved
loop-choice-preserved t c =
    let choice : IsChoice c.in-Some.level.now c.args.state.now c.as_slice-choice-items.result.now c.loop-choice.choice-index c.in_ok-settled.settled.state c.in_ok-settled.settled.ends = choice_at c.loop-choice-test.true c.choice-item.is c.in_ok-settled.ensures.state c.in_ok-settled.ensures.ends in (
      further_then c.args.levels.now c.args.kept.now c.loop-choice.kept c.visit.new.kept c.loop-choice.invariant.0
          c.in-Ok.ensures.further,
      omega (arith, c.in-Ok.ensures.left, c.loop-choice.invariant.1),
      fails_known c.visit.new.kept.lemmas c.in-Some.level.now c.args.done c.args.state.now
          c.in_ok-settled.settled.state c.args.allowed c.in_ok-settled.settled.ends c.as_slice-choice-items.result.now
          c.loop-choice.choice-index choice c.if-allowed-settled.false (c.in-Ok.ensures.failed c.if-found.false)
          (fails_still c.args.levels.now c.loop-choice.kept c.visit.new.kept c.in-Some.level.now c.args.done
          c.args.state.now (c.args.allowed + 1) (take c.loop-choice.choice-index c.as_slice-choice-items.result.now)
          c.in-Ok.ensures.further c.loop-choice.invariant.2),
      tied_still c.args.levels.now c.args.kept.now
          c.loop-choice.kept c.visit.new.kept (units_at c.args.levels.now c.args.done) c.args.left.now c.loop-choice.left
          c.visit.new.left c.loop-choice.invariant.3 (c.in-Ok.ensures.each c.if-found.false),
      stay_behind c.args.done (c.args.allowed + 1) (c.args.allowed - c.in_ok-settled.settled.ends + 1) c.args.kept.now
          c.loop-choice.kept c.visit.new.kept (omega arith) c.loop-choice.invariant.4 c.in-Ok.ensures.others,
      within_then c.args.levels.now c.in-Some.level.now c.args.done c.args.state.now c.in_ok-settled.settled.state
          c.args.allowed c.in_ok-settled.settled.ends c.as_slice-choice-items.result.now c.loop-choice.choice-index
          c.args.kept.now c.loop-choice.kept c.visit.new.kept (sym c.in-Some.ensures) c.as_slice-choice-items.ensures
          choice c.if-allowed-settled.false c.loop-choice.invariant.5 c.in-Ok.ensures.within,
    )

pub keep-requires-clause-justified : goal.keep-requires-clause-justified
keep-requires-clause-justified t c =
    all_fail c.args.levels.now c.loop-choice.kept.lemmas c.in-Some.level.now c.args.done c.args.state.now (c.args.allowed + 1) c.as_slice-choice-items.result.now c.loop-choice.choice-index (sym c.in-Some.ensures) c.as_slice-choice-items.ensures c.loop-choice.invariant.2 c.loop-choice-test.false

pub visit-requires : goal.visit-requires
visit-requires t c =
    let choice : IsChoice c.in-Some.level.now c.args.state.now c.as_slice-choice-items.result.now c.loop-choice.choice-index c.in_ok-settled.settled.state c.in_ok-settled.settled.ends = choice_at c.loop-choice-test.true c.choice-item.is c.in_ok-settled.ensures.state c.in_ok-settled.ensures.ends in
    let within : c.args.done < length c.args.levels.now = slice_get_within c.args.levels.now c.args.done c.in-Some.level.now (sym c.in-Some.ensures) in
    let state : IsStateOf (nodes_of (slice_get c.args.levels.now (c.args.done + 1))) c.in_ok-settled.settled.state = state_behind c.args.levels.now c.in-Some.level.now c.args.done c.args.state.now c.in_ok-settled.settled.state c.in_ok-settled.settled.ends c.as_slice-choice-items.result.now c.loop-choice.choice-index c.requires.chained (sym c.in-Some.ensures) choice c.requires.state in
    (omega (arith, within), (c.requires.small, (c.requires.few, (omega (arith, c.requires.allowed), (c.requires.chained, (state, (c.loop-choice.invariant.0.kept, search rules)))))))

pub settle-requires : goal.settle-requires
settle-requires t c = all_at (λ (level : Level). length level.now ≤ 65536) c.args.levels.now c.args.done c.in-Some.level.now c.requires.small (sym c.in-Some.ensures)

pub overflow_add-done : goal.overflow_add-done
overflow_add-done t c =
    let within : c.args.done < length c.args.levels.now = slice_get_within c.args.levels.now c.args.done c.in-Some.level.now (sym c.in-Some.ensures) in
    omega (arith, within, c.requires.few)

pub overflow_add-done-in-loop-choice : goal.overflow_add-done-in-loop-choice
overflow_add-done-in-loop-choice t c =
    let within : c.args.done < length c.args.levels.now = slice_get_within c.args.levels.now c.args.done c.in-Some.level.now (sym c.in-Some.ensures) in
    omega (arith, within, c.requires.few)

pub keep-requires-clause-done : goal.keep-requires-clause-done
keep-requires-clause-done t c =
    let within : c.args.done < length c.args.levels.now = slice_get_within c.args.levels.now c.args.done c.in-Some.level.now (sym c.in-Some.ensures) in
    omega (arith, within, c.requires.few)

pub returns-in_default-clause-found : goal.returns-in_default-clause-found
returns-in_default-clause-found t c = λ _. leaf_open c.args.levels.now c.args.done c.args.state.now c.args.allowed (sym c.get.ensures ∙ ap (λ o. option_copied o) c.in_default.is)

pub returns-in-Err-clause-spent_path : goal.returns-in-Err-clause-spent_path
returns-in-Err-clause-spent_path t c = λ spent.
    tied_behind c.args.levels.now c.args.kept.now c.loop-choice.kept c.visit.new.kept
    (units_at c.args.levels.now c.args.done) c.args.left.now c.loop-choice.left c.visit.new.left
    (path_units (drop (c.args.done + 1) c.args.levels.now)) (path_units (drop c.args.done c.args.levels.now))
    c.loop-choice.invariant.3 (c.in-Err.ensures.spent_path spent)
    (omega (arith, path_next c.args.levels.now c.args.done c.in-Some.level.now (sym c.in-Some.ensures)))

pub returns-then-found-clause-found : goal.returns-then-found-clause-found
returns-then-found-clause-found t c =
    let choice : IsChoice c.in-Some.level.now c.args.state.now c.as_slice-choice-items.result.now c.loop-choice.choice-index c.in_ok-settled.settled.state c.in_ok-settled.settled.ends = choice_at c.loop-choice-test.true c.choice-item.is c.in_ok-settled.ensures.state c.in_ok-settled.ensures.ends in
    λ _. choice_open c.args.levels.now c.in-Some.level.now c.args.done c.args.state.now c.in_ok-settled.settled.state c.args.allowed c.in_ok-settled.settled.ends c.as_slice-choice-items.result.now c.loop-choice.choice-index (sym c.in-Some.ensures) c.as_slice-choice-items.ensures choice c.if-allowed-settled.false (c.in-Ok.ensures.found c.if-found.true)

pub returns-then-found-clause-path : goal.returns-then-found-clause-path
returns-then-found-clause-path t c =
    tied_behind c.args.levels.now c.args.kept.now c.loop-choice.kept c.visit.new.kept
    (units_at c.args.levels.now c.args.done) c.args.left.now c.loop-choice.left c.visit.new.left
    (path_units (drop (c.args.done + 1) c.args.levels.now) + 1)
    (path_units (drop c.args.done c.args.levels.now) + 1) c.loop-choice.invariant.3 c.in-Ok.ensures.path
    (omega (arith, path_next c.args.levels.now c.args.done c.in-Some.level.now (sym c.in-Some.ensures)))

pub returns-then-not-take-clause-spent_path : goal.returns-then-not-take-clause-spent_path
returns-then-not-take-clause-spent_path t c = λ _.
    tied_thrown c.args.levels.now c.args.kept.now c.args.done c.args.left.now c.take.new.left (c.take.ensures.none c.if-not-take.true) (omega (arith, c.units_at.ensures, c.take.ensures.few c.if-not-take.true))

pub returns-in_default-clause-path : goal.returns-in_default-clause-path
returns-in_default-clause-path t c =
    tied_leaf c.args.levels.now c.args.kept.now c.args.done c.args.left.now c.take.new.left (path_units (drop c.args.done c.args.levels.now) + 1) (sym c.get.ensures ∙ ap (λ o. option_copied o) c.in_default.is)
    (omega (arith, c.units_at.ensures, c.take.ensures.taken c.if-not-take.false))
    (omega arith)

pub returns-clause-each : goal.returns-clause-each
returns-clause-each t c = λ _. tied_kept c.args.levels.now c.args.kept.now c.loop-choice.kept c.keep.new.self (units_at c.args.levels.now c.args.done) c.args.left.now c.loop-choice.left 0 c.loop-choice.invariant.3 c.in_ok-keep.ensures.one

pub returns-clause-path : goal.returns-clause-path
returns-clause-path t c = tied_kept c.args.levels.now c.args.kept.now c.loop-choice.kept c.keep.new.self (units_at c.args.levels.now c.args.done) c.args.left.now c.loop-choice.left (path_units (drop c.args.done c.args.levels.now) + 1) c.loop-choice.invariant.3 c.in_ok-keep.ensures.one

pub keep-requires-clause-new : goal.keep-requires-clause-new
keep-requires-clause-new t c = unknown_still c.args.done (c.args.allowed + 1) c.args.kept.now c.loop-choice.kept c.args.state.now (c.args.allowed + 1) c.loop-choice.invariant.4 c.requires.new

pub returns-then-found-clause-within : goal.returns-then-found-clause-within
returns-then-found-clause-within t c =
    let choice : IsChoice c.in-Some.level.now c.args.state.now c.as_slice-choice-items.result.now c.loop-choice.choice-index c.in_ok-settled.settled.state c.in_ok-settled.settled.ends = choice_at c.loop-choice-test.true c.choice-item.is c.in_ok-settled.ensures.state c.in_ok-settled.ensures.ends in
    within_then c.args.levels.now c.in-Some.level.now c.args.done c.args.state.now c.in_ok-settled.settled.state
    c.args.allowed c.in_ok-settled.settled.ends c.as_slice-choice-items.result.now c.loop-choice.choice-index
    c.args.kept.now c.loop-choice.kept c.visit.new.kept (sym c.in-Some.ensures) c.as_slice-choice-items.ensures
    choice c.if-allowed-settled.false c.loop-choice.invariant.5 c.in-Ok.ensures.within

pub returns-in-Err-clause-spent_within : goal.returns-in-Err-clause-spent_within
returns-in-Err-clause-spent_within t c =
    let choice : IsChoice c.in-Some.level.now c.args.state.now c.as_slice-choice-items.result.now c.loop-choice.choice-index c.in_ok-settled.settled.state c.in_ok-settled.settled.ends = choice_at c.loop-choice-test.true c.choice-item.is c.in_ok-settled.ensures.state c.in_ok-settled.ensures.ends in
    λ spent. within_then c.args.levels.now c.in-Some.level.now c.args.done c.args.state.now
    c.in_ok-settled.settled.state c.args.allowed c.in_ok-settled.settled.ends c.as_slice-choice-items.result.now
    c.loop-choice.choice-index c.args.kept.now c.loop-choice.kept c.visit.new.kept (sym c.in-Some.ensures)
    c.as_slice-choice-items.ensures choice c.if-allowed-settled.false c.loop-choice.invariant.5
    (c.in-Err.ensures.spent_within spent)

pub returns-clause-within : goal.returns-clause-within
returns-clause-within t c = within_more c.args.levels.now c.args.done c.args.state.now (c.args.allowed + 1) c.args.kept.now c.loop-choice.kept c.keep.new.self c.loop-choice.invariant.5 c.in_ok-keep.ensures.within
