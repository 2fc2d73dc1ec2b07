use Rattle.std.proofs.Common.{◌≡◌, ◌∙◌, ap, sym}
use Rattle.std.proofs.lemmas.Result.{IfErr-weaker, IfOk-weaker}
use Rattle.cell_inputs.specs.declared.style.LeastRow.TheVariants.{First, Lowest}
use Rattle.cell_make.proofs.CellBy.{cell_so, stop_so}
use Rattle.cell_make.specs.RowInputs.{RowInputs}
use Rattle.cell_make.specs.RowSteps.{IsCellBy, IsCellOf, IsStop, IsStopBy}
use Rattle.cell_make.proofs.row_cell.made_cell.Goals as goal

pub returns-in-First-clause-made : goal.returns-in-First-clause-made
returns-in-First-clause-made c =
    let chosen : c.args.row.now.choice ≡ First = sym (ap (λ (r : RowInputs). r.choice) c.row.view_is) ∙ c.in-First.is in
    IfOk-weaker c.first_cell.result (IsCellBy First c.in_ok-inputs.inputs) (IsCellOf c.args.row.now c.args.name.now)
    (λ cell h. cell_so c.args.row.now First c.in_ok-inputs.inputs c.args.name.now cell chosen c.in_ok-inputs.ensures.inputs c.in_ok-inputs.ensures.name h) c.first_cell.ensures.made

pub returns-in-First-clause-stops : goal.returns-in-First-clause-stops
returns-in-First-clause-stops c =
    let chosen : c.args.row.now.choice ≡ First = sym (ap (λ (r : RowInputs). r.choice) c.row.view_is) ∙ c.in-First.is in
    IfErr-weaker c.first_cell.result (IsStopBy First c.in_ok-inputs.inputs) (IsStop c.args.row.now c.args.name.now)
    (λ stop h. stop_so c.args.row.now First c.in_ok-inputs.inputs c.args.name.now stop chosen c.in_ok-inputs.ensures.inputs c.in_ok-inputs.ensures.name h) c.first_cell.ensures.stops

pub returns-in-Lowest-clause-made : goal.returns-in-Lowest-clause-made
returns-in-Lowest-clause-made c =
    let chosen : c.args.row.now.choice ≡ Lowest = sym (ap (λ (r : RowInputs). r.choice) c.row.view_is) ∙ c.in-Lowest.is in
    IfOk-weaker c.lowest_cell.result (IsCellBy Lowest c.in_ok-inputs.inputs) (IsCellOf c.args.row.now c.args.name.now)
    (λ cell h. cell_so c.args.row.now Lowest c.in_ok-inputs.inputs c.args.name.now cell chosen c.in_ok-inputs.ensures.inputs c.in_ok-inputs.ensures.name h) c.lowest_cell.ensures.made

pub returns-in-Lowest-clause-stops : goal.returns-in-Lowest-clause-stops
returns-in-Lowest-clause-stops c =
    let chosen : c.args.row.now.choice ≡ Lowest = sym (ap (λ (r : RowInputs). r.choice) c.row.view_is) ∙ c.in-Lowest.is in
    IfErr-weaker c.lowest_cell.result (IsStopBy Lowest c.in_ok-inputs.inputs) (IsStop c.args.row.now c.args.name.now)
    (λ stop h. stop_so c.args.row.now Lowest c.in_ok-inputs.inputs c.args.name.now stop chosen c.in_ok-inputs.ensures.inputs c.in_ok-inputs.ensures.name h) c.lowest_cell.ensures.stops
