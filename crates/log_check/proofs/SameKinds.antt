-- What holds of some kinds of the fingers holds of their kinds.
use Rattle.std.proofs.Common.{subst}
use Rattle.cell_num.specs.declared.finger.Fingers.{Fingers}
use Rattle.row_state.specs.declared.kind.Kinds.{Kinds}
use Rattle.row_state.specs.Start.{AreKinds, AreSomeKinds}
use Rattle.row_state.proofs.SameKinds.{same_kinds}
use Rattle.log_check.specs.Accepted.{ForKinds}

pub for_kinds : (f : Fingers) (j : Kinds) (Says : Kinds → Type 0) → AreKinds f j → AreSomeKinds j → Says j → ForKinds f Says
for_kinds f j Says of_j some_j h k of_k some_k = subst Says (same_kinds f j k of_j some_j of_k some_k) h
