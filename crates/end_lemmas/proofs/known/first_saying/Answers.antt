use Rattle.std.proofs.Common.{arith, get_or}
use Rattle.std.proofs.lemmas.List.{get_or_default}
use Rattle.end_lemmas.specs.Justified.{SaysAt}
use Rattle.end_lemmas.proofs.Passed.{none_first, none_more, none_passed}
use Rattle.end_lemmas.proofs.known.first_saying.Goals as goal

pub loop-at-init : goal.loop-at-init
loop-at-init g c = none_first (SaysAt c.args.lemmas.now c.args.done c.args.state.now c.args.need)

pub returns-then-is_said_at : goal.returns-then-is_said_at
returns-then-is_said_at g c = c.is_said_at.ensures.0 c.if-is_said_at.true

pub loop-at-preserved : goal.loop-at-preserved
loop-at-preserved g c =
    none_more (SaysAt c.args.lemmas.now c.args.done c.args.state.now c.args.need) c.args.places.now c.loop-at.at-index
    (get_or c.args.places.now c.loop-at.at-index 0) c.is_said_at.result c.loop-at-test.true (get_or_default c.args.places.now c.loop-at.at-index 0 (get_or c.args.places.now c.loop-at.at-index 0) c.loop-at-test.true) c.is_said_at.ensures c.loop-at.invariant
    c.if-is_said_at.false

pub returns : goal.returns
returns g c =
    none_passed (SaysAt c.args.lemmas.now c.args.done c.args.state.now c.args.need) c.args.places.now c.loop-at.at-index
    (omega (arith, c.loop-at-test.false)) c.loop-at.invariant
