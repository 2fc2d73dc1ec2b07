use Rattle.cell_commands.specs.Evidence.{shown}
use Rattle.cell_commands.proofs.Ended.{drawn_to, short_row}
use Rattle.cell_commands.proofs.drawing.drawn.Goals as goal

pub row_end-end-requires-clause-columns : goal.row_end-end-requires-clause-columns
row_end-end-requires-clause-columns c = short_row c.args.inputs.now c.args.row.now c.show_limits.ensures c.requires.arranged

pub row_end-end-requires-clause-exact : goal.row_end-end-requires-clause-exact
row_end-end-requires-clause-exact c = c.in_ok-came.ensures.comes.exact

pub returns : goal.returns
returns c = drawn_to c.args.style c.args.inputs.now c.args.stem.now c.args.row.now (shown c.args.evidence) c.in_ok-came.came c.row_end-end.result c.in_ok-came.ensures.comes c.row_end-end.ensures
