use Rattle.cell_commands.proofs.Arranged.{row_few}
use Rattle.cell_commands.proofs.best.list_best.Goals as goal

pub gaps-requires : goal.gaps-requires
gaps-requires c = row_few c.args.kinds.now c.args.row.now c.show_limits.ensures c.requires
