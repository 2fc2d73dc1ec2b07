-- What a check of a log results in.
use Rattle.std.specs.Prelude.{ℕ, ◌≡◌, ◌≢◌, ◌≤◌, List, codes, length, Option, Some, None, Ok, Err}
use Rattle.cell_num.specs.Fingers.{columns_of}
use Rattle.row_model.specs.declared.column.Column.{Column}
use Rattle.row_model.specs.Arrangement.{IsArrangement}
use Rattle.row_model.specs.Gaps.{gaps_of}
use Rattle.row_state.specs.declared.kind.Kinds.{Kinds}
use Rattle.row_state.specs.Versions.{value_of}
use Rattle.bound_log.specs.declared.log.Log.{Log}
use Rattle.bound_log.specs.declared.fault.LogFault.{LogFault}
use Rattle.bound_log.specs.declared.fault.LogFault.TheVariants as misread
use Rattle.bound_log.specs.Fits.{Fits}
use Rattle.bound_log.specs.Reading.{log_of}
use Rattle.bound_log.specs.Text.{log_text}
use Rattle.log_check.specs.declared.refused.Refused.{Refused}
use Rattle.log_check.specs.declared.refused.Refused.TheVariants as because
use Rattle.log_check.specs.Accepted.{IsAccepted, Lists, WithKinds}
use Rattle.log_check.specs.Refusal.{Refuses}
use Rattle.cell_commands.specs.declared.verdict.CheckAnswer.{CheckAnswer}
use Rattle.cell_commands.specs.declared.verdict.CheckAnswer.TheVariants.{Accepted, Misread, Rejected}
use Rattle.call_end.specs.declared.end.End.{End}
use Rattle.call_end.specs.declared.status.Status.TheVariants as status
use Rattle.call_end.specs.End.{reports}
use Rattle.cell_report.specs.Faults.{fault_line, log_fault, check_fault}
use Rattle.cell_inputs.specs.Inputs.{Inputs}
use Rattle.cell_report.specs.Logs.{checked_text}

-- the bytes are the text of a log that is accepted, with that many gaps and lemmas
abbrev pub HoldsAccepted : Inputs → List ℕ → ℕ → ℕ → Kinds → Type 0
HoldsAccepted inputs bytes gaps lemmas k =
    (log : Log)
    × Fits k log
    × (bytes ≡ log_text inputs.cell.name log)
    × IsAccepted (value_of log.version) k inputs.fingers log gaps
    × (lemmas ≡ length log.lemmas)

-- for these kinds, the bytes are the text of the log, which is accepted with the gaps of the row and lists it
pub record ListsRow (inputs : Inputs) (bytes : List ℕ) (row : List Column) (log : Log) (k : Kinds) : Type 0 where
  pub fits : Fits k log
  pub text : bytes ≡ log_text inputs.cell.name log
  pub accepted : IsAccepted (value_of log.version) k inputs.fingers log (gaps_of row)
  pub lists : Lists k log.best (λ listed. listed ≡ row)

-- The bytes are the text of the log, which is accepted and lists the row: an arrangement of the fingers, and no other
-- has fewer gaps.
pub record IsListed (inputs : Inputs) (bytes : List ℕ) (row : List Column) (log : Log) : Type 0 where
  pub arranges : IsArrangement row inputs.fingers
  pub least : (other : List Column) → IsArrangement other inputs.fingers → gaps_of row ≤ gaps_of other
  pub listed : WithKinds inputs.fingers (ListsRow inputs bytes row log)

-- so it is for the kinds of the fingers
abbrev pub IsTextOfAccepted : Inputs → List ℕ → ℕ → ℕ → Type 0
IsTextOfAccepted inputs bytes gaps lemmas = WithKinds inputs.fingers (HoldsAccepted inputs bytes gaps lemmas)

-- they are no such text
abbrev pub IsNoAccepted : Inputs → List ℕ → Type 0
IsNoAccepted inputs bytes = (gaps lemmas : ℕ) → IsTextOfAccepted inputs bytes gaps lemmas → ⊥

-- they are the text of a log that is refused by this cause
abbrev pub HoldsRefused : Inputs → List ℕ → Refused → Kinds → Type 0
HoldsRefused inputs bytes f k =
    (log : Log)
    × (log_of bytes inputs.cell.name k ≡ Ok log)
    × Refuses (value_of log.version) k inputs.fingers log f

-- The bytes are the text of an accepted log that lists the row, and no arrangement of the fingers has fewer gaps; or
-- they are no text of a log, by the first place that is wrong; or the log is refused, by the first cause.
abbrev pub Checks : Inputs → List ℕ → CheckAnswer → Type 0
Checks inputs bytes (Accepted row gaps lemmas) =
    ((other : List Column) → IsArrangement other inputs.fingers → gaps ≤ gaps_of other)
    × IsTextOfAccepted inputs bytes gaps lemmas
    × ((log : Log) × IsListed inputs bytes row log × (lemmas ≡ length log.lemmas))
Checks inputs bytes (Misread f) =
    (f ≢ misread.NoMemory)
    × WithKinds inputs.fingers (λ k. log_of bytes inputs.cell.name k ≡ Err f)
    × IsNoAccepted inputs bytes
Checks inputs bytes (Rejected f) =
    (f ≢ because.NoMemory)
    × WithKinds inputs.fingers (HoldsRefused inputs bytes f)
    × IsNoAccepted inputs bytes

-- out of memory is no answer
abbrev pub misread_answer : LogFault → Option CheckAnswer
misread_answer misread.NoMemory = None
misread_answer f = Some (Misread f)

abbrev pub rejected_answer : Refused → Option CheckAnswer
rejected_answer because.NoMemory = None
rejected_answer f = Some (Rejected f)

abbrev pub check_end : Inputs → CheckAnswer → End
check_end inputs (Accepted row gaps lemmas) =
    reports status.Done (checked_text inputs.cell.name (columns_of inputs.fingers) gaps lemmas)
check_end inputs (Misread f) = reports status.Rejected (fault_line (codes "log") (log_fault f))
check_end inputs (Rejected f) = reports status.Rejected (fault_line (codes "log") (check_fault f))

abbrev pub ChecksTo : Inputs → List ℕ → End → Type 0
ChecksTo inputs bytes end = (answer : CheckAnswer) × Checks inputs bytes answer × (end ≡ check_end inputs answer)
