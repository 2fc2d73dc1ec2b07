use Rattle.std.proofs.Common.{ℕ, List, IfOk, subst}
use Rattle.cell_commands.specs.LowCheck.{LowChecksTo}
use Rattle.call_work.proofs.commands.work_on.Goals as goal

pub returns-in-CheckingLow : goal.returns-in-CheckingLow
returns-in-CheckingLow c =
    rw c.in-CheckingLow.is (subst (λ (bytes : List ℕ). IfOk c.check_low.result (LowChecksTo c.in-CheckingLow.of.inputs bytes)) c.as_slice.ensures.bytes c.check_low.ensures)
