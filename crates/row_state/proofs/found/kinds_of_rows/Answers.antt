use Rattle.std.proofs.Common.{refl}
use Rattle.cell_num.specs.declared.finger.Row.TheVariants.{P, N}
use Rattle.row_state.specs.Start.{AreKindsOf}
use Rattle.row_state.proofs.KindsOf.{are_kinds, row_kinds, some_kinds}
use Rattle.row_state.proofs.found.kinds_of_rows.Goals as goal

pub invariant_of-result : goal.invariant_of-result
invariant_of-result c =
    let p : AreKindsOf P c.args.fingers.now.nets c.args.fingers.now.p c.in_ok-kinds_of.field-0 = row_kinds P c.args.fingers.now.nets c.args.fingers.now.p c.as_slice.result.now c.in_ok-kinds_of.field-0 c.as_slice.ensures c.in_ok-kinds_of.ensures c.requires.p in
    let n : AreKindsOf N c.args.fingers.now.nets c.args.fingers.now.n c.in_ok-kinds_of-2.field-0 = row_kinds N c.args.fingers.now.nets c.args.fingers.now.n c.as_slice-2.result.now c.in_ok-kinds_of-2.field-0 c.as_slice-2.ensures c.in_ok-kinds_of-2.ensures c.requires.n in
    some_kinds c.args.fingers.now _ c.requires refl p n

pub returns : goal.returns
returns c =
    let p : AreKindsOf P c.args.fingers.now.nets c.args.fingers.now.p c.in_ok-kinds_of.field-0 = row_kinds P c.args.fingers.now.nets c.args.fingers.now.p c.as_slice.result.now c.in_ok-kinds_of.field-0 c.as_slice.ensures c.in_ok-kinds_of.ensures c.requires.p in
    let n : AreKindsOf N c.args.fingers.now.nets c.args.fingers.now.n c.in_ok-kinds_of-2.field-0 = row_kinds N c.args.fingers.now.nets c.args.fingers.now.n c.as_slice-2.result.now c.in_ok-kinds_of-2.field-0 c.as_slice-2.ensures c.in_ok-kinds_of-2.ensures c.requires.n in
    (are_kinds c.args.fingers.now _ refl p n, some_kinds c.args.fingers.now _ c.requires refl p n)
