use Rattle.std.proofs.Common.{◌++◌, take}
use Rattle.std.specs.List.{flat_map}
use Rattle.cell_io.specs.Desk.{IsQuiet}
use Rattle.cell_io.specs.Output.{CanPut}
use Rattle.bound_log.specs.Text.{column_line}
use Rattle.log_output.specs.Giving.{Gives, OnlyPuts}
use Rattle.log_output.specs.Targets.{place_of}
use Rattle.log_output.proofs.log_text.give_columns.Given as goal

abbrev pub invariant-steps : goal.invariant-steps
invariant-steps g l =
    CanPut (place_of l.target) (g.D.Desk.view l.desk)
    × Gives (place_of l.target) (l.fn.block ++ flat_map column_line (take l.step-index l.steps)) l.block (g.D.Desk.view l.fn.desk) (g.D.Desk.view l.desk)
    × OnlyPuts (place_of l.target) (g.D.Desk.view l.fn.desk) (g.D.Desk.view l.desk)
    × IsQuiet (g.D.Desk.view l.fn.desk) (g.D.Desk.view l.desk)
