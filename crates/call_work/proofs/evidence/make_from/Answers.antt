use Rattle.std.proofs.Common.{ℕ, List, IfOk, subst}
use Rattle.call_words.specs.declared.evidence.Evidence.TheVariants.{Trails}
use Rattle.cell_commands.specs.Given.{MakesFromTo}
use Rattle.call_work.proofs.Files.{of_log, of_trails}
use Rattle.call_work.proofs.evidence.make_from.Goals as goal

pub returns-in-Log : goal.returns-in-Log
returns-in-Log c =
    rw c.in-Log.is (of_log c.args.of.now.inputs c.in-Log.log (λ evidence bytes end. MakesFromTo evidence c.args.of.now.style c.args.of.now.inputs bytes c.args.of.now.stem end) c.make_from_log.result c.make_from_log.ensures)

pub returns-in-Trails : goal.returns-in-Trails
returns-in-Trails c =
    rw c.in-Trails.is (of_trails c.args.of.now.inputs c.in-Trails.bytes (λ evidence bytes end. MakesFromTo evidence c.args.of.now.style c.args.of.now.inputs bytes c.args.of.now.stem end) c.make_from_trails.result
    (subst (λ (bytes : List ℕ). IfOk c.make_from_trails.result (MakesFromTo Trails c.args.of.now.style c.args.of.now.inputs bytes c.args.of.now.stem)) c.as_slice.ensures.bytes c.make_from_trails.ensures))
