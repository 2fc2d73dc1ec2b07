use Rattle.std.proofs.Common.{ℕ, List, IfOk, subst}
use Rattle.cell_commands.specs.Given.{ChecksBy}
use Rattle.cell_commands.specs.TrailCheck.{TrailChecksTo}
use Rattle.call_work.proofs.Files.{of_log, of_trails}
use Rattle.call_work.proofs.evidence.check_by.Goals as goal

pub returns-in-Log : goal.returns-in-Log
returns-in-Log c =
    rw c.in-Log.is (of_log c.args.inputs.now c.in-Log.log (λ evidence bytes end. ChecksBy evidence c.args.inputs.now bytes end) c.check.result c.check.ensures)

pub returns-in-Trails : goal.returns-in-Trails
returns-in-Trails c =
    rw c.in-Trails.is (of_trails c.args.inputs.now c.in-Trails.bytes (λ evidence bytes end. ChecksBy evidence c.args.inputs.now bytes end) c.check_by_trails.result
    (subst (λ (bytes : List ℕ). IfOk c.check_by_trails.result (TrailChecksTo c.args.inputs.now bytes)) c.as_slice.ensures.bytes c.check_by_trails.ensures))
