use Rattle.std.proofs.Common.{ℕ, ◌≡◌, IsTrue, List, Ok, Err, ap, sym, subst, ◌∙◌}
use Rattle.cell_num.specs.Names.{is_cell}
use Rattle.finger_fold.specs.Folding.{folded}
use Rattle.spice_net.specs.Subcircuit.{subcircuit}
use Rattle.tech_file.specs.Technology.{Technology}
use Rattle.cell_make.specs.RowInputs.{RowInputs}
use Rattle.cell_make.specs.RowSteps.{IsStop, fold_stop, spice_stop}
use Rattle.cell_make.proofs.Split.{fault_stops, fold_stops, read_of_row}
use Rattle.cell_make.proofs.Stops.{stop_handed}
use Rattle.cell_make.proofs.row_cell.inputs_of.Goals as goal

pub invariant_of-result : goal.invariant_of-result
invariant_of-result c = record {
  tech = c.in_ok-tech.ensures.limits;
  cell = subst (λ (name : List ℕ). IsTrue (is_cell name)) (sym c.in_ok-cell.ensures.name) c.requires.cell;
  nets = c.in_ok-cell.ensures.named;
  pins = c.in_ok-cell.ensures.pins;
  directions = c.in_ok-cell.ensures.directions;
  fingers = c.in_ok-fingers.ensures.asked;
  some = c.in_ok-fingers.ensures.some c.in_ok-cell.ensures.some;
  sound = c.in_ok-fingers.ensures.sound;
}

pub returns-in_err-cell-clause-stops : goal.returns-in_err-cell-clause-stops
returns-in_err-cell-clause-stops c =
    let tech : c.row.inside.tech ≡ c.args.row.now.tech = ap (λ (r : RowInputs). r.tech) c.row.view_is in
    stop_handed c.from_residual.result (spice_stop c.in_err-cell.field-0.0) (IsStop c.args.row.now c.args.name.now) c.from_residual.ensures
    (fault_stops c.args.row.now c.args.name.now c.in_err-cell.field-0.0
    (λ other. read_of_row c.args.row.now c.args.name.now c.row.inside.tech c.args.lines.now c.as_slice.result.now (Err c.in_err-cell.field-0.0) c.requires.lines tech c.as_slice.ensures (c.in_err-cell.ensures.fault other)))

pub returns-in_err-fingers-clause-stops : goal.returns-in_err-fingers-clause-stops
returns-in_err-fingers-clause-stops c =
    let tech : c.row.inside.tech ≡ c.args.row.now.tech = ap (λ (r : RowInputs). r.tech) c.row.view_is in
    stop_handed c.from_residual-in_err-fingers.result (fold_stop c.in_err-fingers.field-0.0) (IsStop c.args.row.now c.args.name.now) c.from_residual-in_err-fingers.ensures
    (fold_stops c.args.row.now c.args.name.now c.in_ok-cell.cell c.in_err-fingers.field-0.0
    (read_of_row c.args.row.now c.args.name.now c.row.inside.tech c.args.lines.now c.as_slice.result.now (Ok c.in_ok-cell.cell) c.requires.lines tech c.as_slice.ensures c.in_ok-cell.ensures.cell)
    (λ other. subst (λ (t : Technology). folded t c.in_ok-cell.cell ≡ Err c.in_err-fingers.field-0.0) tech (c.in_err-fingers.ensures.fault other)))

pub returns-clause-inputs : goal.returns-clause-inputs
returns-clause-inputs c =
    let tech : c.row.inside.tech ≡ c.args.row.now.tech = ap (λ (r : RowInputs). r.tech) c.row.view_is in
    let read : subcircuit c.args.row.now.spice c.args.name.now c.args.row.now.tech ≡ Ok c.in_ok-cell.cell =
    read_of_row c.args.row.now c.args.name.now c.row.inside.tech c.args.lines.now c.as_slice.result.now (Ok c.in_ok-cell.cell) c.requires.lines tech c.as_slice.ensures c.in_ok-cell.ensures.cell in
    record {
      tech = c.in_ok-tech.ensures.exact ∙ tech;
      cell = subst (λ (n : List ℕ). subcircuit c.args.row.now.spice n c.args.row.now.tech ≡ Ok c.in_ok-cell.cell) (sym c.in_ok-cell.ensures.name) read;
      fingers = subst (λ (t : Technology). folded t c.in_ok-cell.cell ≡ Ok c.in_ok-fingers.fingers) tech c.in_ok-fingers.ensures.fingers;
    }
