use Rattle.std.proofs.Common.{◌≡◌, Some, arith, refl, sym}
use Rattle.trail_check.specs.Gates.{first_with_many}
use Rattle.trail_search.proofs.Proved.{crowded_alone, gate_crowded, listed_alone}
use Rattle.trail_search.proofs.refute.listed.Goals as goal

pub returns-then-not-take-clause-attempt : goal.returns-then-not-take-clause-attempt
returns-then-not-take-clause-attempt c = λ limit.
    listed_alone c.args.fingers.now c.args.order.now c.in-Ok.levels limit c.args.left.now c.take.new.left c.requires.order c.in-Ok.ensures.is c.in-Ok.ensures.few (omega (arith, c.listed_units.ensures, c.take.ensures.few c.if-not-take.true))

pub returns-then-not-take-2-clause-attempt : goal.returns-then-not-take-2-clause-attempt
returns-then-not-take-2-clause-attempt c = λ limit.
    let first : first_with_many c.args.fingers.now c.args.order.now ≡ Some c.in-Err-Long.gate = rw c.in-Err-Long.field-0-is at c.in-Err-Long.ensures.stops in
    crowded_alone c.args.fingers.now c.args.order.now c.in-Err-Long.gate limit c.args.left.now c.take-in-Err-Long.new.left c.requires.order first (omega (arith, c.take-in-Err-Long.ensures.few c.if-not-take-2.true))

pub returns-else-not-take-2-clause-halted : goal.returns-else-not-take-2-clause-halted
returns-else-not-take-2-clause-halted c =
    let first : first_with_many c.args.fingers.now c.args.order.now ≡ Some c.in-Err-Long.gate = rw c.in-Err-Long.field-0-is at c.in-Err-Long.ensures.stops in
    gate_crowded c.args.fingers.now c.args.order.now (Some c.in-Err-Long.gate) c.in-Err-Long.gate (sym first) refl

pub returns-else-not-take-2-clause-attempt : goal.returns-else-not-take-2-clause-attempt
returns-else-not-take-2-clause-attempt c = λ limit.
    let first : first_with_many c.args.fingers.now c.args.order.now ≡ Some c.in-Err-Long.gate = rw c.in-Err-Long.field-0-is at c.in-Err-Long.ensures.stops in
    crowded_alone c.args.fingers.now c.args.order.now c.in-Err-Long.gate limit c.args.left.now c.take-in-Err-Long.new.left c.requires.order first (omega (arith, c.take-in-Err-Long.ensures.taken c.if-not-take-2.false))
