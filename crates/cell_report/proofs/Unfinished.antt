-- How the log of a search is told that spent its budget.
use Rattle.std.proofs.Common.{ℕ, ◌≡◌, List, ◌++◌, ap, length, ◌∙◌}
use Rattle.bound_log.specs.declared.log.Log.{Log}
use Rattle.bound_log.specs.Text.{log_text}
use Rattle.spice_net.specs.declared.subckt.Subckt.{Subckt}
use Rattle.call_end.specs.declared.end.End.{End}
use Rattle.call_end.specs.declared.status.Status.TheVariants as status
use Rattle.call_end.specs.End.{says}
use Rattle.call_end.specs.Status.{first_line}
use Rattle.cell_report.specs.Logs.{unfinished_text}
use Rattle.cell_report.specs.Unfinished.{unfinished_end}

-- the counts in front of the text of the log
pub spent_end : (cell : Subckt) (proved count : ℕ) (log : Log) (front text report : List ℕ) (end : End) → count ≡ length log.lemmas → front ≡ first_line status.Unfinished ++ unfinished_text proved count → text ≡ log_text cell.name log → report ≡ front ++ text → end ≡ says status.Unfinished report → end ≡ unfinished_end cell proved log
spent_end cell proved count log front text report end counted begun written joined said =
    let begins : front ≡ first_line status.Unfinished ++ unfinished_text proved (length log.lemmas) = begun ∙ ap (λ (n : ℕ). first_line status.Unfinished ++ unfinished_text proved n) counted in
    said ∙ ap (λ (bytes : List ℕ). says status.Unfinished bytes) (joined ∙ ap (λ (behind : List ℕ). front ++ behind) written ∙ ap (λ (before : List ℕ). before ++ log_text cell.name log) begins)
