use Rattle.std.proofs.Common.{ℕ, ◌≡◌, ◌≢◌, ◌≤◌, All, AllPairs, Err, List, refl, ap, sum_by, sym, subst, ◌∙◌}
use Rattle.std.proofs.lemmas.Result.{IfOk-weaker}
use Rattle.cell_inputs.specs.Inputs.{unit_nm}
use Rattle.gds_write.specs.Written.{IsWritableStruct, library_of}
use Rattle.gds_write.specs.declared.library.Struct.{Struct}
use Rattle.row_abut.specs.Cells.{AreOneByName, HaveSameRails, IsRowCell}
use Rattle.row_abut.specs.Faults.{first_height}
use Rattle.row_abut.specs.Structs.{abutted}
use Rattle.row_abut.specs.declared.cell.RowCell.{RowCell}
use Rattle.cell_make.proofs.Beside.{all_in_row, are_ready, each_once, narrow, rails_agree, no_fault_so, row_fault_so, rowed_so, top_is_new, width_is}
use Rattle.cell_make.proofs.Library.{writable}
use Rattle.cell_make.specs.RowInputs.{RowInputs}
use Rattle.cell_make.specs.Rowed.{ComesToRow, IsRowFault, row_cells}
use Rattle.row_abut.specs.declared.cell.RowFault.TheVariants.{NoMemory}
use Rattle.cell_make.specs.declared.row_outcome.RowOutcome.{RowOutcome}
use Rattle.cell_make.specs.declared.row_outcome.RowOutcome.TheVariants.{Unabutted}
use Rattle.cell_make.proofs.row_outcome.side_by_side.Goals as goal

pub abut-requires-clause-cells : goal.abut-requires-clause-cells
abut-requires-clause-cells c = subst (λ (cs : List RowCell). All IsRowCell cs) (sym c.requires.shown) (all_in_row c.args.row.now c.requires.made (are_ready c.args.row.now c.args.cells.now c.show_limits.ensures c.requires))

pub abut-requires-clause-rails : goal.abut-requires-clause-rails
abut-requires-clause-rails c = subst (λ (cs : List RowCell). AllPairs HaveSameRails cs) (sym c.requires.shown) (rails_agree c.args.row.now c.requires.made (are_ready c.args.row.now c.args.cells.now c.show_limits.ensures c.requires))

pub abut-requires-clause-once : goal.abut-requires-clause-once
abut-requires-clause-once c = subst (λ (cs : List RowCell). AllPairs AreOneByName cs) (sym c.requires.shown) (each_once c.args.row.now c.requires.made (are_ready c.args.row.now c.args.cells.now c.show_limits.ensures c.requires))

pub abut-requires-clause-top : goal.abut-requires-clause-top
abut-requires-clause-top c =
    subst (λ (top : List ℕ). All (λ (x : RowCell). x.name ≢ top) c.args.cells.now) (sym (ap (λ (r : RowInputs). r.top) c.row.view_is))
    (subst (λ (cs : List RowCell). All (λ (x : RowCell). x.name ≢ c.args.row.now.top) cs) (sym c.requires.shown) (top_is_new c.args.row.now c.requires.made (are_ready c.args.row.now c.args.cells.now c.show_limits.ensures c.requires)))

pub write_library-requires : goal.write_library-requires
write_library-requires c =
    let unit : c.unit_nm.result ≡ unit_nm c.args.row.now.tech = c.unit_nm.ensures in
    let structs : c.in-Ok.structs ≡ abutted c.args.row.now.top (row_cells c.requires.made) = c.in-Ok.ensures.exact ∙ ap (λ (top : List ℕ). abutted top c.args.cells.now) (ap (λ (r : RowInputs). r.top) c.row.view_is) ∙ ap (λ (cs : List RowCell). abutted c.args.row.now.top cs) c.requires.shown in
    subst (λ n. All (IsWritableStruct n) c.in-Ok.structs) (sym unit)
    (subst (λ (ss : List Struct). All (IsWritableStruct (unit_nm c.args.row.now.tech)) ss) (sym structs) (writable c.args.row.now c.requires.made (are_ready c.args.row.now c.args.cells.now c.show_limits.ensures c.requires)))

pub width_of-requires : goal.width_of-requires
width_of-requires c = subst (λ (cs : List RowCell). sum_by (λ (x : RowCell). x.drawing.width) cs ≤ 2032256) (sym (c.as_slice.ensures ∙ c.requires.shown)) (narrow c.args.row.now c.requires.made (are_ready c.args.row.now c.args.cells.now c.show_limits.ensures c.requires))

pub returns-in_ok-library-in-Ok : goal.returns-in_ok-library-in-Ok
returns-in_ok-library-in-Ok c =
    let unit : c.unit_nm.result ≡ unit_nm c.args.row.now.tech = c.unit_nm.ensures in
    let structs : c.in-Ok.structs ≡ abutted c.args.row.now.top (row_cells c.requires.made) = c.in-Ok.ensures.exact ∙ ap (λ (top : List ℕ). abutted top c.args.cells.now) (ap (λ (r : RowInputs). r.top) c.row.view_is) ∙ ap (λ (cs : List RowCell). abutted c.args.row.now.top cs) c.requires.shown in (
      c.requires.made,
      rowed_so c.args.row.now c.args.cells.now c.show_limits.ensures c.requires (no_fault_so c.args.cells.now c.in-Ok.structs c.in-Ok.ensures.heights c.in-Ok.ensures.channel) c.in-Ok.ensures.obeys c.in-Ok.ensures.extracts,
      record {
        bytes = c.from_vec.ensures ∙ c.in_ok-library-in-Ok.ensures.exact ∙ ap (λ n. library_of c.in-Ok.structs n) unit ∙ ap (λ (ss : List Struct). library_of ss (unit_nm c.args.row.now.tech)) structs;
        wide = c.width_of.ensures ∙ ap (λ (cs : List RowCell). sum_by (λ (x : RowCell). x.drawing.width) cs) (c.as_slice.ensures ∙ c.requires.shown) ∙ width_is c.requires.made;
        high = c.first_height.ensures ∙ ap first_height (c.as_slice-in-Ok.ensures ∙ c.requires.shown);
      },
    )

pub returns-in-Err : goal.returns-in-Err
returns-in-Err c = IfOk-weaker c.unabutted.result (λ (told : RowOutcome). (c.in-Err.fault ≢ NoMemory) × (told ≡ Unabutted c.in-Err.fault)) (ComesToRow c.args.row.now) (λ told (other, same). subst (ComesToRow c.args.row.now) (sym same) (
  c.requires.made,
  record {
    cells = c.requires.are;
    is = subst (λ (cs : List RowCell). IsRowFault cs c.in-Err.fault) c.requires.shown (row_fault_so c.args.cells.now (Err c.in-Err.fault) c.in-Err.fault refl c.in-Err.ensures.heights c.in-Err.ensures.channel other);
  },
)) c.unabutted.ensures
