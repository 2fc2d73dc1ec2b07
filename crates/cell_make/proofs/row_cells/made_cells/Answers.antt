use Rattle.std.proofs.Common.{ℕ, ◌≡◌, ◌+◌, ◌<◌, List, [], ◌∷◌, ◌++◌, Ok, ap, drop, get_or, length, sym, subst, take, ◌∙◌}
use Rattle.std.specs.Prelude.{find}
use Rattle.spice_net.specs.Chosen.{lines_in}
use Rattle.row_abut.specs.declared.cell.RowCell.{RowCell}
use Rattle.cell_make.proofs.Made.{next_more, none_made, one_more, parted}
use Rattle.cell_make.proofs.Split.{split_stops}
use Rattle.cell_make.proofs.Stops.{stop_handed, stops_here}
use Rattle.cell_make.specs.RowInputs.{RowInputs}
use Rattle.cell_make.specs.RowSteps.{AreCellsOf, IsNextCell, Stops, has_name, spice_stop}
use Rattle.cell_make.proofs.row_cells.made_cells.Goals as goal

pub names-init : goal.names-init
names-init c = subst (AreCellsOf c.args.row.now []) (sym c.new-cells.ensures) (none_made c.args.row.now)

pub returns-in_err-lines-clause-stops : goal.returns-in_err-lines-clause-stops
returns-in_err-lines-clause-stops c =
    stop_handed c.from_residual.result (spice_stop c.in_err-lines.field-0.0) (Stops c.args.row.now) c.from_residual.ensures
    (split_stops c.args.row.now c.as_slice-bytes.result.now c.in_err-lines.field-0.0 c.show_limits.ensures
    (c.as_slice-bytes.ensures ∙ ap (λ (r : RowInputs). r.spice) c.row.view_is) c.in_err-lines.ensures.fault)

pub next_cell-requires-clause-lines : goal.next_cell-requires-clause-lines
next_cell-requires-clause-lines c =
    let bytes : c.as_slice-bytes.result.now ≡ c.args.row.now.spice = c.as_slice-bytes.ensures ∙ ap (λ (r : RowInputs). r.spice) c.row.view_is in
    subst (λ (text : List ℕ). lines_in text ≡ Ok c.in_ok-lines.lines) bytes c.in_ok-lines.ensures.lines

pub returns-in_err-cell-clause-stops : goal.returns-in_err-cell-clause-stops
returns-in_err-cell-clause-stops c =
    let items : c.as_slice-name-items.result.now ≡ c.args.row.now.names = c.as_slice-name-items.ensures ∙ ap (λ (r : RowInputs). r.names) c.row.view_is in
    let less : c.names.name-index < length c.args.row.now.names = subst (λ (ns : List (List ℕ)). c.names.name-index < length ns) items c.names-test.true in
    let is : c.name-item.result ≡ get_or c.args.row.now.names c.names.name-index c.name-item.result = c.name-item.is ∙ ap (λ (ns : List (List ℕ)). get_or ns c.names.name-index c.name-item.result) items in
    stop_handed c.from_residual-in_err-cell.result c.in_err-cell.field-0.0 (Stops c.args.row.now) c.from_residual-in_err-cell.ensures
    (stops_here c.args.row.now (take c.names.name-index c.args.row.now.names) c.names.cells c.name-item.result (drop (c.names.name-index + 1) c.args.row.now.names) c.in_err-cell.field-0.0 c.names.invariant
    (parted c.args.row.now.names c.names.name-index c.name-item.result less is) c.in_err-cell.ensures.stops)

pub names-preserved : goal.names-preserved
names-preserved c =
    let items : c.as_slice-name-items.result.now ≡ c.args.row.now.names = c.as_slice-name-items.ensures ∙ ap (λ (r : RowInputs). r.names) c.row.view_is in
    let less : c.names.name-index < length c.args.row.now.names = subst (λ (ns : List (List ℕ)). c.names.name-index < length ns) items c.names-test.true in
    let is : c.name-item.result ≡ get_or c.args.row.now.names c.names.name-index c.name-item.result = c.name-item.is ∙ ap (λ (ns : List (List ℕ)). get_or ns c.names.name-index c.name-item.result) items in
    let next : IsNextCell c.args.row.now c.name-item.result (find (has_name c.name-item.result) c.names.cells) c.in_ok-cell.cell = subst (λ (cells : List RowCell). IsNextCell c.args.row.now c.name-item.result (find (has_name c.name-item.result) cells) c.in_ok-cell.cell) c.as_slice.ensures c.in_ok-cell.ensures.next in
    subst (AreCellsOf c.args.row.now (take (c.names.name-index + 1) c.args.row.now.names)) (sym c.in_ok-push.ensures.ok)
    (subst (λ (ns : List (List ℕ)). AreCellsOf c.args.row.now ns (c.names.cells ++ c.in_ok-cell.cell ∷ [])) (one_more c.args.row.now.names c.names.name-index c.name-item.result less is)
    (next_more c.args.row.now (take c.names.name-index c.args.row.now.names) c.names.cells c.name-item.result c.in_ok-cell.cell c.names.invariant next))
