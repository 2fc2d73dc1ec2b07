use Rattle.std.proofs.Common.{rules, arith, sym}
use Rattle.std.proofs.lemmas.Result.{IfOk-weaker}
use Rattle.gds_read.specs.declared.structure.Lookup.TheVariants as lookup
use Rattle.gds_read.specs.Structure.{Finds, found_in}
use Rattle.gds_read.specs.Decoding.{Decodes, IsCell}
use Rattle.gds_read.proofs.Cells.{is_cell}
use Rattle.gds_read.proofs.Decoded.{decodes_there, refuses_there}
use Rattle.gds_read.proofs.read.read_cell.Goals as goal

pub returns-in-At-clause-decodes : goal.returns-in-At-clause-decodes
returns-in-At-clause-decodes c =
    let found : Finds c.args.bytes.now (lookup.At c.in-At.place) (found_in c.args.bytes.now c.args.name.now) = search rules in
    decodes_there c.args.bytes.now c.args.name.now c.args.lambda_nm c.in_ok-first_pass.field-0 c.in-At.place c.grid_of-grid.result c.read_elements.result (sym c.in_ok-first_pass.ensures) found c.grid_of-grid.ensures.value c.read_elements.ensures

pub returns-in-At-clause-cell : goal.returns-in-At-clause-cell
returns-in-At-clause-cell c =
    let found : Finds c.args.bytes.now (lookup.At c.in-At.place) (found_in c.args.bytes.now c.args.name.now) = search rules in
    IfOk-weaker c.read_elements.result (Decodes c.args.bytes.now c.args.name.now c.args.lambda_nm) (IsCell c.args.bytes.now c.args.name.now c.args.lambda_nm)
    (λ shapes. is_cell c.args.bytes.now c.args.name.now c.args.lambda_nm shapes (λ i. omega (arith, c.type_inv.bytes i)))
    (decodes_there c.args.bytes.now c.args.name.now c.args.lambda_nm c.in_ok-first_pass.field-0 c.in-At.place c.grid_of-grid.result c.read_elements.result (sym c.in_ok-first_pass.ensures) found c.grid_of-grid.ensures.value c.read_elements.ensures)

pub returns-in-At-clause-refused : goal.returns-in-At-clause-refused
returns-in-At-clause-refused c =
    let found : Finds c.args.bytes.now (lookup.At c.in-At.place) (found_in c.args.bytes.now c.args.name.now) = search rules in
    refuses_there c.args.bytes.now c.args.name.now c.args.lambda_nm c.in_ok-first_pass.field-0 c.in-At.place c.grid_of-grid.result c.read_elements.result (sym c.in_ok-first_pass.ensures) found c.grid_of-grid.ensures.value c.read_elements.ensures
