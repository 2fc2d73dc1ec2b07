-- What a check of a certificate by trails, of any version, results in.
use Rattle.std.specs.Prelude.{ℕ, ◌≡◌, ◌≢◌, List, ◌++◌, codes, Ok, Err}
use Rattle.cell_num.specs.Fingers.{columns_of}
use Rattle.cell_num.specs.declared.net.NetNo.{NetNo}
use Rattle.row_model.specs.declared.column.Column.{Column}
use Rattle.row_model.specs.Arrangement.{IsArrangement}
use Rattle.row_model.specs.Gaps.{gaps_of}
use Rattle.row_state.specs.declared.kind.Kinds.{Kinds}
use Rattle.bound_log.specs.declared.fault.LogFault.TheVariants as misread
use Rattle.log_check.specs.Accepted.{WithKinds}
use Rattle.trail_check.specs.declared.refusal.TrailRefusal.{TrailRefusal}
use Rattle.trail_check.specs.declared.refusal.TrailRefusal.TheVariants as because
use Rattle.trail_check.specs.Accepted.{IsLow}
use Rattle.trail_check.specs.Refusal.{IsFault}
use Rattle.trail_either.specs.declared.evidence.TrailEvidence.{TrailEvidence}
use Rattle.trail_either.specs.Accepted.{EitherRefuses, IsEitherAccepted}
use Rattle.trail_either.specs.Either.{EitherFits, either_text, fill_count, lemma_count}
use Rattle.trail_either.specs.Ended.{IsEitherCertified}
use Rattle.trail_either.specs.Reading.{either_of}
use Rattle.call_end.specs.declared.end.End.{End}
use Rattle.call_end.specs.declared.status.Status.TheVariants as status
use Rattle.call_end.specs.End.{reports}
use Rattle.cell_report.specs.Faults.{fault_line, log_fault}
use Rattle.cell_report.specs.TrailFaults.{trail_fault}
use Rattle.cell_inputs.specs.Inputs.{Inputs}
use Rattle.cell_report.specs.Rows.{row_text}
use Rattle.cell_commands.specs.Counts.{counts_text}
use Rattle.cell_commands.specs.declared.trail_checking.TrailAnswer.{TrailAnswer}
use Rattle.cell_commands.specs.declared.trail_checking.TrailAnswer.TheVariants.{Accepted, Misread, Rejected}

-- the bytes are the text of a certificate that is accepted, with that many gaps, lemmas and filled gates
pub record IsTextOf (inputs : Inputs) (bytes : List ℕ) (gaps lemmas filled : ℕ) (k : Kinds) : Type 0 where
  pub trails : TrailEvidence
  pub fits : EitherFits k trails
  pub text : bytes ≡ either_text inputs.cell.name trails
  pub accepted : IsEitherAccepted inputs.fingers trails gaps
  pub lemmas_are : lemmas ≡ lemma_count trails
  pub filled_are : filled ≡ fill_count trails

-- The bytes are the text of the certificate, which is accepted and lists the row: an arrangement of the fingers, and
-- no other has fewer gaps.
pub record IsListed (inputs : Inputs) (bytes : List ℕ) (row : List Column) (trails : TrailEvidence) : Type 0 where
  pub arranges : IsArrangement row inputs.fingers
  pub least : IsLow inputs.fingers (gaps_of row)
  pub text : bytes ≡ either_text inputs.cell.name trails
  pub listed : WithKinds inputs.fingers (λ k. IsEitherCertified k inputs.fingers row trails)

-- so it is for the kinds of the fingers
abbrev pub IsTextOfAccepted : Inputs → List ℕ → ℕ → ℕ → ℕ → Type 0
IsTextOfAccepted inputs bytes gaps lemmas filled = WithKinds inputs.fingers (IsTextOf inputs bytes gaps lemmas filled)

-- with some counts
abbrev pub HoldsAccepted : Inputs → List ℕ → Type 0
HoldsAccepted inputs bytes =
    (gaps : ℕ) × (lemmas : ℕ) × (filled : ℕ) × IsTextOfAccepted inputs bytes gaps lemmas filled

-- they are the text of a certificate that is refused by this cause
abbrev pub HoldsRefused : Inputs → List ℕ → TrailRefusal → Kinds → Type 0
HoldsRefused inputs bytes cause k =
    (trails : TrailEvidence)
    × (either_of bytes inputs.cell.name k ≡ Ok trails)
    × EitherRefuses inputs.fingers trails cause

-- they are the text of a certificate with a gate whose fingers pair in more ways than a checker lists
abbrev pub HoldsCrowded : Inputs → List ℕ → Type 0
HoldsCrowded inputs bytes =
    (gate : NetNo) × WithKinds inputs.fingers (HoldsRefused inputs bytes (because.Choices gate))

-- The bytes are the text of an accepted certificate that lists the row, and no arrangement of the fingers has fewer
-- gaps; or they are no text of one, by the first place that is wrong; or the certificate is refused, by the first
-- cause, and where this is a fault of it they are the text of no accepted one.
abbrev pub Checks : Inputs → List ℕ → TrailAnswer → Type 0
Checks inputs bytes (Accepted row gaps lemmas filled) =
    IsLow inputs.fingers gaps
    × IsTextOfAccepted inputs bytes gaps lemmas filled
    × ((trails : TrailEvidence)
    × IsListed inputs bytes row trails
    × (lemmas ≡ lemma_count trails)
    × (filled ≡ fill_count trails))
Checks inputs bytes (Misread f) =
    (f ≢ misread.NoMemory)
    × WithKinds inputs.fingers (λ k. either_of bytes inputs.cell.name k ≡ Err f)
    × (HoldsAccepted inputs bytes → ⊥)
Checks inputs bytes (Rejected cause) =
    (cause ≢ because.NoMemory)
    × WithKinds inputs.fingers (HoldsRefused inputs bytes cause)
    × (IsFault cause → HoldsAccepted inputs bytes → ⊥)

abbrev pub check_end : Inputs → TrailAnswer → End
check_end inputs (Accepted row gaps lemmas filled) =
    reports status.Done (row_text inputs.cell.name (columns_of inputs.fingers) gaps ++ counts_text lemmas filled)
check_end inputs (Misread f) = reports status.Rejected (fault_line (codes "trails") (log_fault f))
check_end inputs (Rejected cause) =
    reports status.Rejected (fault_line (codes "trails") (trail_fault inputs.cell.nets cause))

abbrev pub TrailChecksTo : Inputs → List ℕ → End → Type 0
TrailChecksTo inputs bytes end =
    (answer : TrailAnswer) × Checks inputs bytes answer × (end ≡ check_end inputs answer)
