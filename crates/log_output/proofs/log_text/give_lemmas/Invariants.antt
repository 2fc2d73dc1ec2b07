use Rattle.std.proofs.Common.{◌++◌, All, take}
use Rattle.std.specs.List.{flat_map}
use Rattle.cell_io.specs.Desk.{IsQuiet}
use Rattle.cell_io.specs.Output.{CanPut}
use Rattle.bound_log.specs.Text.{lemma_line}
use Rattle.bound_log.specs.Kept.{HasRoom}
use Rattle.log_output.specs.Giving.{Gives, OnlyPuts}
use Rattle.log_output.specs.Targets.{place_of}
use Rattle.log_output.proofs.log_text.give_lemmas.Given as goal

abbrev pub invariant-lemmas : goal.invariant-lemmas
invariant-lemmas g l =
    All (HasRoom l.lemma) l.kept
    × CanPut (place_of l.target) (g.D.Desk.view l.desk)
    × Gives (place_of l.target) (l.fn.block ++ flat_map lemma_line (take l.at l.kept)) l.block (g.D.Desk.view l.fn.desk) (g.D.Desk.view l.desk)
    × OnlyPuts (place_of l.target) (g.D.Desk.view l.fn.desk) (g.D.Desk.view l.desk)
    × IsQuiet (g.D.Desk.view l.fn.desk) (g.D.Desk.view l.desk)
