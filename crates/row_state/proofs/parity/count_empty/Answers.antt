use Rattle.std.proofs.Common.{◌≡◌, ◌≤◌, ◌∙◌, ap, arith, refl, sym}
use Rattle.cell_num.specs.Fingers.{sum_below}
use Rattle.row_state.specs.Tests.{empty_test}
use Rattle.row_state.proofs.Gates.{empty_last, empty_step}
use Rattle.row_state.proofs.ParityCode.{empty_few}
use Rattle.row_state.proofs.parity.count_empty.Goals as goal

pub gates-init : goal.gates-init
gates-init c = (ap (sum_below (empty_test c.args.row c.args.state.now c.args.kinds.now)) (sym c.first_gates-cursor.ensures.start), omega arith, c.first_gates-cursor.ensures.cursor c.args.kinds.now)

pub gates-preserved : goal.gates-preserved
gates-preserved c =
    let is : c.empty_on-empty.result ≡ empty_test c.args.row c.args.state.now c.args.kinds.now c.in-Some.on.gate = c.empty_on-empty.ensures c.args.kinds.now c.args.state.now c.in-Some.ensures.on in
    let few : c.empty_on-empty.result ≤ 64 = omega (arith, is, empty_few c.args.row c.args.kinds.now c.args.state.now c.in-Some.on.gate c.show_limits.ensures c.requires.state) in
    let step = empty_step c.args.row c.args.kinds.now c.args.state.now c.gates.cursor c.behind-cursor.result c.in-Some.on.gate c.gates.empty c.empty_on-empty.result c.gates.invariant.2 c.in-Some.ensures.next c.behind-cursor.ensures.gate is few (c.gates.invariant.0, c.gates.invariant.1) in
    (step.0, step.1, c.behind-cursor.ensures.cursor c.args.kinds.now c.args.state.now c.in-Some.ensures.on (omega (arith, c.in-Some.ensures.next.below)))

pub returns : goal.returns
returns c = c.gates.invariant.0 ∙ sym (empty_last c.args.row c.args.kinds.now c.args.state.now c.gates.cursor c.gates.invariant.2 (c.in_default.ensures.last refl))
