-- What is reported of a search that spent its budget: the counts, and the text of its log.
use Rattle.std.specs.Prelude.{ℕ, ◌++◌, length}
use Rattle.bound_log.specs.declared.log.Log.{Log}
use Rattle.bound_log.specs.Text.{log_text}
use Rattle.spice_net.specs.declared.subckt.Subckt.{Subckt}
use Rattle.call_end.specs.declared.end.End.{End}
use Rattle.call_end.specs.declared.status.Status.TheVariants as status
use Rattle.call_end.specs.End.{reports}
use Rattle.cell_report.specs.Logs.{unfinished_text}

abbrev pub unfinished_end : Subckt → ℕ → Log → End
unfinished_end cell proved log =
    reports status.Unfinished (unfinished_text proved (length log.lemmas) ++ log_text cell.name log)
