use Rattle.std.proofs.Common.{ℕ, ◌≡◌, ◌≤◌, ◌++◌, List, length, subst, sym}
use Rattle.call_end.specs.declared.status.Status.TheVariants as status
use Rattle.call_end.specs.Status.{first_line}
use Rattle.cell_report.specs.Cells.{tall_text}
use Rattle.cell_inputs.specs.Inputs.{Inputs, inputs_of}
use Rattle.cell_commands.specs.Evidence.{shown}
use Rattle.cell_commands.proofs.RowEnds.{cyclic_ends, drawn_ends, few_so, tall_ends, written_so}
use Rattle.cell_commands.proofs.make_end.row_end.Goals as goal

pub with_drawing-requires-clause-pins : goal.with_drawing-requires-clause-pins
with_drawing-requires-clause-pins c = subst (λ (i : Inputs). i.cell.pins.pins ≤ length i.cell.nets) (sym c.inputs.view_is) c.show_limits.ensures.pins.named

pub with_drawing-requires-clause-directions : goal.with_drawing-requires-clause-directions
with_drawing-requires-clause-directions c = subst (λ (i : Inputs). length i.cell.directions ≡ i.cell.pins.pins) (sym c.inputs.view_is) c.show_limits.ensures.directions

pub with_drawing-requires-clause-shapes : goal.with_drawing-requires-clause-shapes
with_drawing-requires-clause-shapes c = few_so c.args.inputs.now c.args.came.now c.in-Drawn.placement c.in-Drawn.routing c.in-Drawn.drawn c.in-Drawn.is c.requires.written

pub with_drawing-requires-clause-readable : goal.with_drawing-requires-clause-readable
with_drawing-requires-clause-readable c =
    written_so c.args.inputs.now (inputs_of c.inputs.inside.tech c.inputs.inside.cell c.inputs.inside.fingers) c.args.came.now c.in-Drawn.placement c.in-Drawn.routing c.in-Drawn.drawn c.unit_nm.result
    c.inputs.view_is c.unit_nm.ensures.is c.in-Drawn.is c.requires.written

pub returns-in-Drawn : goal.returns-in-Drawn
returns-in-Drawn c =
    drawn_ends c.args.style c.args.inputs.now (inputs_of c.inputs.inside.tech c.inputs.inside.cell c.inputs.inside.fingers) c.args.stem.now c.args.row.now (shown c.args.evidence) c.args.came.now c.in-Drawn.placement c.in-Drawn.routing c.in-Drawn.drawn c.unit_nm.result c.with_drawing.result
    c.inputs.view_is c.unit_nm.ensures.is c.in-Drawn.is c.requires.exact c.with_drawing.ensures

pub returns-in_ok-report-in-Cyclic : goal.returns-in_ok-report-in-Cyclic
returns-in_ok-report-in-Cyclic c =
    cyclic_ends c.args.style c.args.inputs.now (inputs_of c.inputs.inside.tech c.inputs.inside.cell c.inputs.inside.fingers) c.args.stem.now c.args.row.now c.args.evidence c.args.came.now c.in-Cyclic.placement c.in-Cyclic.ring c.in_ok-report-in-Cyclic.report c.evidence_end.result
    c.inputs.view_is c.in-Cyclic.is c.in_ok-report-in-Cyclic.ensures c.evidence_end.ensures

pub returns-in_ok-report-in-Tall : goal.returns-in_ok-report-in-Tall
returns-in_ok-report-in-Tall c =
    let told : c.in_ok-report-in-Tall.report ≡ first_line status.TooTall ++ c.args.evidence.fewest ++ tall_text c.in-Tall.needed c.in-Tall.given =
    subst (λ (fewest : List ℕ). c.in_ok-report-in-Tall.report ≡ first_line status.TooTall ++ fewest ++ tall_text c.in-Tall.needed c.in-Tall.given) c.as_slice.ensures c.in_ok-report-in-Tall.ensures in
    tall_ends c.args.style c.args.inputs.now c.args.stem.now c.args.row.now c.args.evidence c.args.came.now c.in-Tall.placement c.in-Tall.routing c.in-Tall.needed c.in-Tall.given c.in_ok-report-in-Tall.report c.evidence_end-in-Tall.result
    c.in-Tall.is c.requires.exact told c.evidence_end-in-Tall.ensures
