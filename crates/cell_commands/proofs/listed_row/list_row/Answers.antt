use Rattle.std.proofs.Common.{All, subst, sym, ◌∙◌}
use Rattle.cell_commands.specs.Sides.{HasKinds}
use Rattle.cell_commands.proofs.Arranged.{all_have}
use Rattle.cell_commands.proofs.Only.{one_list}
use Rattle.cell_commands.proofs.listed_row.list_row.Goals as goal

pub list_columns-requires : goal.list_columns-requires
list_columns-requires c = subst (All (HasKinds c.args.kinds.now)) (sym c.as_slice.ensures) (all_have c.args.kinds.now c.args.row.now c.requires)

pub returns-clause-only : goal.returns-clause-only
returns-clause-only c = λ other columns listed. one_list c.args.kinds.now c.args.row.now other c.in_ok-steps.steps c.show_limits.ensures c.requires.2.columns columns (c.in_ok-steps.ensures.columns ∙ c.as_slice.ensures) listed c.in_ok-steps.ensures.listed
