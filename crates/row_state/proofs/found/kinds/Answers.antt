use Rattle.row_state.proofs.KindsOf.{arranges}
use Rattle.row_state.proofs.SameKinds.{same_kinds}
use Rattle.row_state.proofs.found.kinds.Goals as goal

pub returns-clause-only : goal.returns-clause-only
returns-clause-only c = λ other of_other some_other. same_kinds c.args.fingers.now other c.in_ok-kinds.kinds of_other some_other c.in_ok-kinds.ensures.0 c.in_ok-kinds.ensures.1

pub returns-clause-arranges : goal.returns-clause-arranges
returns-clause-arranges c = arranges c.args.fingers.now c.in_ok-kinds.kinds c.in_ok-kinds.ensures.0
