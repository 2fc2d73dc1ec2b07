use Rattle.std.proofs.Common.{◌≡◌, IfOk, subst}
use Rattle.cell_inputs.specs.Inputs.{Inputs, inputs_of}
use Rattle.cell_commands.specs.RowEnd.{RowEvidence}
use Rattle.cell_commands.specs.Evidence.{shown}
use Rattle.cell_commands.proofs.Named.{inside_named}
use Rattle.cell_commands.specs.Certificate.{row_evidence}
use Rattle.cell_commands.specs.Make.{IsDrawnTo}
use Rattle.cell_commands.proofs.making.certified.Goals as goal

pub row_evidence-requires-clause-name : goal.row_evidence-requires-clause-name
row_evidence-requires-clause-name c = inside_named c.args.inputs.now (inputs_of c.inputs.inside.tech c.inputs.inside.cell c.inputs.inside.fingers) c.inputs.view_is c.show_limits.ensures

pub returns : goal.returns
returns c =
    let is : shown c.in_ok-evidence.evidence ≡ row_evidence c.args.inputs.now.cell c.args.stem.now c.args.certificate = subst (λ (i : Inputs). shown c.in_ok-evidence.evidence ≡ row_evidence i.cell c.args.stem.now c.args.certificate) c.inputs.view_is c.in_ok-evidence.ensures in
    subst (λ (told : RowEvidence). IfOk c.drawn.result (IsDrawnTo c.args.style c.args.inputs.now c.args.stem.now c.args.row.now told)) is c.drawn.ensures
