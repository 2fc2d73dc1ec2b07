use Rattle.std.proofs.Common.{rules, ◌≡◌, None}
use Rattle.row_abut.specs.Faults.{first_height, other_height, first_clash}
use Rattle.row_abut.proofs.Clauses.{row_obeys, row_extracts}
use Rattle.row_abut.proofs.abutting.abut.Goals as goal

pub returns-clause-obeys : goal.returns-clause-obeys
returns-clause-obeys c =
    let even : other_height (first_height c.args.cells.now) c.args.cells.now ≡ None = search rules in
    let fit : first_clash c.args.cells.now ≡ None = search rules in
    λ d. row_obeys c.args.cells.now d even fit

pub returns-clause-extracts : goal.returns-clause-extracts
returns-clause-extracts c =
    let even : other_height (first_height c.args.cells.now) c.args.cells.now ≡ None = search rules in
    let fit : first_clash c.args.cells.now ≡ None = search rules in
    λ fingers d z. row_extracts c.args.cells.now fingers c.requires.few c.requires.cells c.requires.rails d even fit z
