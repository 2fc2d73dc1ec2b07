use Rattle.std.proofs.Common.{ℕ, List, ◌≡◌, ◌∙◌, Option, Some, None, IfOk, ap, sym, subst, option_map, Bor}
use Rattle.std.specs.Prelude.{find}
use Rattle.row_abut.specs.declared.cell.RowCell.{RowCell}
use Rattle.cell_make.specs.RowSteps.{IsNextCell, has_name}
use Rattle.cell_make.proofs.row_cells.next_cell.Goals as goal

pub returns-in_ok-copied-in-Some-clause-next : goal.returns-in_ok-copied-in-Some-clause-next
returns-in_ok-copied-in-Some-clause-next c =
    let is : find (has_name c.args.name.now) c.args.before.now ≡ Some c.in-Some.cell.now = ap (λ (n : List ℕ). find (has_name n) c.args.before.now) (sym c.as_slice.ensures) ∙ sym c.cell_named.ensures ∙ ap (option_map (λ (cell : Bor RowCell). cell.now)) c.in-Some.is in
    subst (λ (o : Option RowCell). IsNextCell c.args.row.now c.args.name.now o c.in_ok-copied-in-Some.field-0) (sym is) c.in_ok-copied-in-Some.ensures

pub returns-in-None-clause-next : goal.returns-in-None-clause-next
returns-in-None-clause-next c =
    let is : find (has_name c.args.name.now) c.args.before.now ≡ None = ap (λ (n : List ℕ). find (has_name n) c.args.before.now) (sym c.as_slice.ensures) ∙ sym c.cell_named.ensures ∙ ap (option_map (λ (cell : Bor RowCell). cell.now)) c.in-None.is in
    subst (λ (o : Option RowCell). IfOk c.made_cell.result (IsNextCell c.args.row.now c.args.name.now o)) (sym is) c.made_cell.ensures.made
