use Rattle.std.proofs.Common.{◌≡◌, Err, subst}
use Rattle.lef_read.specs.Drafts.{begun}
use Rattle.lef_read.specs.Macros.{macro_in}
use Rattle.lef_read.proofs.Whole.{comes_to, exit}
use Rattle.lef_read.proofs.read.read_macro.Goals as goal

pub returns-in_err-cell-clause-refused : goal.returns-in_err-cell-clause-refused
returns-in_err-cell-clause-refused c =
    exit c.from_residual-in_err-cell.result c.in_err-cell.field-0.0 (macro_in c.args.bytes.now c.args.name.now c.args.unit_nm) c.from_residual-in_err-cell.ensures.1
    (λ more. comes_to c.args.bytes.now c.args.name.now c.args.unit_nm c.in_ok-draft.draft c.library.new.draft c.new-cursor.result (Err c.in_err-cell.field-0.0)
    (subst (λ name. c.in_ok-draft.draft ≡ begun name c.args.unit_nm) c.as_slice.ensures c.in_ok-draft.ensures)
    c.new-cursor.ensures c.in_ok-library.ensures.keeps (c.in_err-cell.ensures.refused more))
