-- What `plan` results in, with any evidence: its report.
use Rattle.std.specs.Prelude.{ℕ, ◌≡◌, List, ◌++◌}
use Rattle.bound_log.specs.Text.{log_text}
use Rattle.call_end.specs.declared.end.End.{End}
use Rattle.call_end.specs.declared.status.Status.TheVariants as status
use Rattle.call_end.specs.End.{reports}
use Rattle.call_words.specs.declared.evidence.Evidence.{Evidence}
use Rattle.cell_inputs.specs.Inputs.{Inputs}
use Rattle.cell_num.specs.declared.net.NetNo.{NetNo}
use Rattle.cell_report.specs.Logs.{unfinished_text}
use Rattle.cell_report.specs.Rows.{plan_text}
use Rattle.cell_commands.specs.declared.certificate.Certificate.{Certificate}
use Rattle.cell_commands.specs.declared.certificate.Certificate.TheVariants.{Log, Trails}
use Rattle.cell_commands.specs.Certificate.{lemma_count}
use Rattle.cell_commands.specs.Searched.{Crowds, IsFoundBy, IsOpenBy}
use Rattle.row_model.specs.declared.column.Column.{Column}
use Rattle.spice_net.specs.declared.subckt.Subckt.{Subckt}
use Rattle.trail_either.specs.Either.{either_text, fill_count, lemma_count as trail_lemmas}
use Rattle.cell_commands.specs.Counts.{counts_text}
use Rattle.cell_commands.specs.Evidence.{gate_text}

pub data PlanAnswer : Type 0 where
  Planned : (row : List Column) (certificate : Certificate) → PlanAnswer
  Open : (proved : ℕ) (certificate : Certificate) → PlanAnswer
  Crowded : (gate : NetNo) → PlanAnswer

-- The row is the first least one, with a certificate that is accepted and lists it; or a certificate proves that many
-- gaps of every row; or the fingers of a gate pair in too many ways.
abbrev pub Plans : Evidence → Inputs → PlanAnswer → Type 0
Plans evidence inputs (Planned row certificate) = IsFoundBy evidence inputs row certificate
Plans evidence inputs (Open proved certificate) = IsOpenBy evidence inputs proved certificate
Plans evidence inputs (Crowded gate) = Crowds evidence inputs gate

-- the row, and of a certificate by trails its counts
abbrev pub planned_text : Subckt → List Column → Certificate → List ℕ
planned_text cell row (Log log) = plan_text cell.name cell.nets row
planned_text cell row (Trails trails) =
    plan_text cell.name cell.nets row ++ counts_text (trail_lemmas trails) (fill_count trails)

abbrev pub certificate_text : List ℕ → Certificate → List ℕ
certificate_text name (Log log) = log_text name log
certificate_text name (Trails trails) = either_text name trails

-- the counts, and the text of the certificate
abbrev pub open_text : Subckt → ℕ → Certificate → List ℕ
open_text cell proved certificate =
    unfinished_text proved (lemma_count certificate) ++ certificate_text cell.name certificate

abbrev pub plan_end : Inputs → PlanAnswer → End
plan_end inputs (Planned row certificate) = reports status.Done (planned_text inputs.cell row certificate)
plan_end inputs (Open proved certificate) = reports status.Unfinished (open_text inputs.cell proved certificate)
plan_end inputs (Crowded gate) = reports status.Unfinished (gate_text inputs.cell gate)

abbrev pub PlansTo : Evidence → Inputs → End → Type 0
PlansTo evidence inputs end = (answer : PlanAnswer) × Plans evidence inputs answer × (end ≡ plan_end inputs answer)
