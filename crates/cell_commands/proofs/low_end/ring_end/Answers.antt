use Rattle.cell_inputs.specs.Inputs.{inputs_of}
use Rattle.cell_commands.proofs.RowEnds.{none_ends, open_ends}
use Rattle.cell_commands.proofs.low_end.ring_end.Goals as goal

pub returns-then-none_wired : goal.returns-then-none_wired
returns-then-none_wired c =
    none_ends c.args.inputs.now (inputs_of c.inputs.inside.tech c.inputs.inside.cell c.inputs.inside.fingers) c.args.evidence c.args.none_wired c.args.fewest c.args.ring.now c.in_ok-report.report c.evidence_end.result
    c.inputs.view_is c.if-none_wired.true c.in_ok-report.ensures c.evidence_end.ensures

pub returns : goal.returns
returns c =
    open_ends c.args.inputs.now (inputs_of c.inputs.inside.tech c.inputs.inside.cell c.inputs.inside.fingers) c.args.evidence c.args.none_wired c.args.fewest c.args.ring.now c.in_ok-report-2.report c.evidence_end-else-none_wired.result
    c.inputs.view_is c.if-none_wired.false c.in_ok-report-2.ensures c.evidence_end-else-none_wired.ensures
