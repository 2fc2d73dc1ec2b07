use Rattle.std.proofs.Common.{◌≤◌, ◌-◌, length, option_map}
use Rattle.cell_io.specs.Desk.{IsQuiet}
use Rattle.cell_io.specs.Output.{Puts}
use Rattle.cell_io.proofs.output.put_all.Given as goal

abbrev pub invariant-parts : goal.invariant-parts
invariant-parts g l =
    (l.at ≤ length l.bytes)
    × Puts (option_map (λ name. name.now) l.file) l.bytes l.at (g.D.Desk.view l.fn.desk) (g.D.Desk.view l.desk)
    × IsQuiet (g.D.Desk.view l.fn.desk) (g.D.Desk.view l.desk)

abbrev pub decreases-parts : goal.decreases-parts
decreases-parts g l = length l.bytes - l.at
