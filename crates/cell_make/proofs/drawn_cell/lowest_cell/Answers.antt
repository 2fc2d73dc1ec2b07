use Rattle.std.proofs.Common.{refl, subst}
use Rattle.cell_make.proofs.CellBy.{low_open}
use Rattle.cell_make.specs.Searched.{IsFound, IsPlanned, IsUnfinished}
use Rattle.cell_make.proofs.drawn_cell.lowest_cell.Goals as goal

pub of-requires-in-Found : goal.of-requires-in-Found
of-requires-in-Found c =
    let found : IsFound c.args.inputs c.in-Found.row c.in-Found.log = subst (IsPlanned c.args.inputs) c.in-Found.is c.in_ok-planned.ensures in
    found.first

pub low_cell-requires-clause-low : goal.low_cell-requires-clause-low
low_cell-requires-clause-low c =
    let found : IsFound c.args.inputs c.in-Found.row c.in-Found.log = subst (IsPlanned c.args.inputs) c.in-Found.is c.in_ok-planned.ensures in
    (c.in-Found.row, c.in-Found.log, found, c.in_ok-low-in-Found.ensures.comes)

pub returns-in-Unfinished-clause-stops : goal.returns-in-Unfinished-clause-stops
returns-in-Unfinished-clause-stops c =
    let spent : IsUnfinished c.args.inputs c.in-Unfinished.proved c.in-Unfinished.log = subst (IsPlanned c.args.inputs) c.in-Unfinished.is c.in_ok-planned.ensures in
    (refl, low_open c.args.inputs c.in-Unfinished.log c.in-Unfinished.proved spent)
