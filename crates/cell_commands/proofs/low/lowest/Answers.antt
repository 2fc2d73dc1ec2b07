use Rattle.std.proofs.Common.{◌≡◌, ◌≤◌, ◌∙◌, List, ap, length, subst, sym}
use Rattle.row_model.specs.declared.column.Column.{Column}
use Rattle.row_place.specs.declared.placement.Placement.{Placement}
use Rattle.row_place.specs.Places.{placement_of}
use Rattle.cell_make.specs.Style.{AreLegal}
use Rattle.cell_inputs.specs.Inputs.{inputs_of}
use Rattle.cell_make.specs.Rows.{IsRowDrawnBy, placement_in}
use Rattle.cell_commands.specs.Evidence.{shown}
use Rattle.cell_commands.specs.Relisted.{kind_of}
use Rattle.cell_commands.proofs.Ended.{short_row}
use Rattle.cell_commands.proofs.Named.{inside_named}
use Rattle.cell_commands.proofs.Lows.{evidence_of, found_there, low_fits, lowest_made}
use Rattle.cell_commands.proofs.low.lowest.Goals as goal

pub beside-requires-clause-arranged : goal.beside-requires-clause-arranged
beside-requires-clause-arranged c = c.requires.lowest.least.arranges

pub low_evidence-requires-clause-name : goal.low_evidence-requires-clause-name
low_evidence-requires-clause-name c = inside_named c.args.inputs.now (inputs_of c.inputs.inside.tech c.inputs.inside.cell c.inputs.inside.fingers) c.inputs.view_is c.show_limits.ensures

pub low_evidence-requires-clause-fits : goal.low_evidence-requires-clause-fits
low_evidence-requires-clause-fits c = low_fits (kind_of c.args.gaps) c.args.inputs.now c.args.placement.row c.in_ok-listing.listing c.in_ok-listing.ensures

pub lowest-requires-clause-arranged : goal.lowest-requires-clause-arranged
lowest-requires-clause-arranged c = c.requires.lowest.least.arranges

pub lowest-requires-clause-legal : goal.lowest-requires-clause-legal
lowest-requires-clause-legal c = subst (λ (p : Placement). AreLegal c.args.style.wiring p c.args.inputs.now.cell.pins c.args.routing) (sym c.requires.placed) c.requires.lowest.legal

-- the row of what was drawn
drawn_row : (placement drawn : Placement) (row : List Column) → row ≡ drawn.row → drawn ≡ placement_of placement.row → row ≡ placement.row
drawn_row placement drawn row is placed = is ∙ ap (λ (p : Placement). p.row) placed

pub row_end-end-requires-clause-columns : goal.row_end-end-requires-clause-columns
row_end-end-requires-clause-columns c =
    let same : c.row_of.result.now ≡ c.args.placement.row = drawn_row c.args.placement (placement_in c.in_ok-came.came) c.row_of.result.now c.row_of.ensures c.in_ok-came.ensures.comes.placed in
    subst (λ (row : List Column). length row ≤ 64) (sym same) (short_row c.args.inputs.now c.args.placement.row c.show_limits.ensures c.requires.lowest.least.arranges)

pub row_end-end-requires-clause-exact : goal.row_end-end-requires-clause-exact
row_end-end-requires-clause-exact c =
    let same : c.row_of.result.now ≡ c.args.placement.row = drawn_row c.args.placement (placement_in c.in_ok-came.came) c.row_of.result.now c.row_of.ensures c.in_ok-came.ensures.comes.placed in
    subst (λ (row : List Column). IsRowDrawnBy c.args.style c.args.inputs.now row c.in_ok-came.came) (sym same) c.in_ok-came.ensures.comes.exact

pub returns : goal.returns
returns c =
    let same : c.row_of.result.now ≡ c.args.placement.row = drawn_row c.args.placement (placement_in c.in_ok-came.came) c.row_of.result.now c.row_of.ensures c.in_ok-came.ensures.comes.placed in
    lowest_made (kind_of c.args.gaps) c.args.style c.args.inputs.now c.args.stem.now c.args.placement.row c.row_of.result.now c.in_ok-listing.listing c.args.tracks.now c.args.routing c.in_ok-came.came (shown c.in_ok-evidence.evidence) c.row_end-end.result
    same
    (evidence_of c.args.style.wiring (inputs_of c.inputs.inside.tech c.inputs.inside.cell c.inputs.inside.fingers) c.args.inputs.now c.args.stem.now c.in_ok-listing.listing c.args.tracks.now (shown c.in_ok-evidence.evidence) c.inputs.view_is c.in_ok-evidence.ensures)
    c.requires.proves c.in_ok-listing.ensures
    (found_there c.args.style.wiring c.args.inputs.now c.args.least.now c.args.gaps c.show_limits.ensures c.requires.found c.requires.routed)
    c.requires.lowest c.in_ok-came.ensures.wired c.in_ok-came.ensures.comes c.row_end-end.ensures
