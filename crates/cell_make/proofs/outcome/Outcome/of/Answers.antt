use Rattle.std.proofs.Common.{subst, sym}
use Rattle.cell_make.specs.declared.outcome.Outcome.{Outcome}
use Rattle.cell_make.specs.declared.planned.Planned.{Planned}
use Rattle.cell_make.specs.Extent.{IsOnItsLines, LiesInFrame}
use Rattle.cell_make.specs.Making.{CanBeWritten, ComesTo}
use Rattle.cell_make.specs.Searched.{IsFound, IsPlanned}
use Rattle.cell_make.proofs.WithLog.{can_be_written, comes_to, is_on_lines, lies_in_frame}
use Rattle.cell_make.proofs.outcome.Outcome.of.Goals as goal

pub returns-in_ok-came-in-Found-clause-comes : goal.returns-in_ok-came-in-Found-clause-comes
returns-in_ok-came-in-Found-clause-comes c =
    let found : IsFound c.args.inputs.now c.in-Found.row c.in-Found.log = subst (λ (p : Planned). IsPlanned c.args.inputs.now p) c.in-Found.is c.in_ok-planned.ensures in
    subst (λ (o : Outcome). ComesTo c.args.style c.args.inputs.now o) (sym c.with_log.ensures)
    (comes_to c.args.style c.args.inputs.now c.in-Found.row c.in-Found.log c.in_ok-came-in-Found.came found c.in_ok-came-in-Found.ensures.comes)

pub returns-in_ok-came-in-Found-clause-written : goal.returns-in_ok-came-in-Found-clause-written
returns-in_ok-came-in-Found-clause-written c =
    subst (λ (o : Outcome). CanBeWritten c.args.inputs.now o) (sym c.with_log.ensures)
    (can_be_written c.args.inputs.now c.in-Found.log c.in_ok-came-in-Found.came c.in_ok-came-in-Found.ensures.written)

pub returns-in_ok-came-in-Found-clause-placed : goal.returns-in_ok-came-in-Found-clause-placed
returns-in_ok-came-in-Found-clause-placed c =
    subst IsOnItsLines (sym c.with_log.ensures)
    (is_on_lines c.in-Found.row c.in-Found.log c.in_ok-came-in-Found.came c.in_ok-came-in-Found.ensures.comes.placed)

pub returns-in_ok-came-in-Found-clause-extent : goal.returns-in_ok-came-in-Found-clause-extent
returns-in_ok-came-in-Found-clause-extent c =
    subst (λ (o : Outcome). LiesInFrame c.args.inputs.now o) (sym c.with_log.ensures)
    (lies_in_frame c.args.inputs.now c.in-Found.log c.in_ok-came-in-Found.came c.in_ok-came-in-Found.ensures.extent)
