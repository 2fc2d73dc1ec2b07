-- The evidence of a row, by its kind: the log of a search, or a certificate by trails, of any version. Its file, and
-- those beside it.
use Rattle.std.specs.Prelude.{ℕ, ◌≡◌, ◌≢◌, ◌≤◌, List, ◌++◌, codes, length, Some}
use Rattle.cell_io.specs.Desk.{Files}
use Rattle.cell_num.specs.Lines.{count_line}
use Rattle.row_model.specs.declared.column.Column.{Column}
use Rattle.bound_log.specs.declared.log.Log.{Log as SearchLog}
use Rattle.bound_log.specs.Text.{log_text}
use Rattle.log_check.specs.Accepted.{ForKinds, WithKinds}
use Rattle.row_search.specs.Enough.{enough}
use Rattle.spice_net.specs.declared.subckt.Subckt.{Subckt}
use Rattle.trail_either.specs.declared.evidence.TrailEvidence.{TrailEvidence}
use Rattle.trail_either.specs.Either.{either_text, fill_count, lemma_count as trail_lemmas}
use Rattle.trail_either.specs.Ended.{IsEitherCertified}
use Rattle.call_words.specs.declared.evidence.Evidence.{Evidence}
use Rattle.call_words.specs.declared.evidence.Evidence.TheVariants.{Log, Trails}
use Rattle.cell_inputs.specs.Inputs.{Inputs}
use Rattle.cell_make.specs.Searched.{IsCertified, IsUnfinished}
use Rattle.cell_report.specs.Rows.{plan_text}
use Rattle.cell_commands.specs.Check.{IsTextOfAccepted as IsTextOfLog}
use Rattle.cell_commands.specs.TrailCheck.{HoldsCrowded, IsTextOfAccepted as IsTextOfTrails}
use Rattle.cell_commands.specs.Counts.{counts_text}
use Rattle.cell_commands.specs.Searched.{IsOpenByTrails}

abbrev pub Certificate : Evidence → Type 0
Certificate Log = SearchLog
Certificate Trails = TrailEvidence

-- Its checker accepts it with the gaps of the row, and the row that it lists is this one. A log was found within the
-- budget, too.
abbrev pub Certifies : (evidence : Evidence) → Inputs → List Column → Certificate evidence → Type 0
Certifies Log inputs row log = IsCertified inputs row log
Certifies Trails inputs row trails =
    WithKinds inputs.fingers (λ k. IsEitherCertified k inputs.fingers row trails)

-- it lists no row, and proves that many gaps of every row
abbrev pub ProvesAlone : (evidence : Evidence) → Inputs → ℕ → Certificate evidence → Type 0
ProvesAlone Log inputs proved log = IsUnfinished inputs proved log
ProvesAlone Trails inputs proved trails = IsOpenByTrails inputs proved trails

-- The budget is enough to find it with a row, whatever the fingers are. For certificates by trails none is known to be.
abbrev pub HasEnough : Evidence → Inputs → Type 0
HasEnough Log inputs = ForKinds inputs.fingers (λ k. enough k ≤ inputs.tech.budget)
HasEnough Trails inputs = ⊥

-- the bytes are the text of one that is accepted for the inputs
abbrev pub IsTextOfAccepted : Evidence → Inputs → List ℕ → Type 0
IsTextOfAccepted Log inputs bytes = (gaps : ℕ) × (lemmas : ℕ) × IsTextOfLog inputs bytes gaps lemmas
IsTextOfAccepted Trails inputs bytes =
    (gaps : ℕ) × (lemmas : ℕ) × (filled : ℕ) × IsTextOfTrails inputs bytes gaps lemmas filled

-- the bytes are the text of one with a gate whose fingers pair in more ways than a checker lists; a log lists no ways
abbrev pub IsTextOfCrowded : Evidence → Inputs → List ℕ → Type 0
IsTextOfCrowded Log inputs bytes = ⊥
IsTextOfCrowded Trails inputs bytes = HoldsCrowded inputs bytes

-- the name of its file
abbrev pub evidence_name : Evidence → List ℕ → List ℕ
evidence_name Log out = out ++ codes ".clog"
evidence_name Trails out = out ++ codes ".ctrail"

-- the text of its file
abbrev pub evidence_text : (evidence : Evidence) → List ℕ → Certificate evidence → List ℕ
evidence_text Log name log = log_text name log
evidence_text Trails name trails = either_text name trails

abbrev pub lemma_count : (evidence : Evidence) → Certificate evidence → ℕ
lemma_count Log log = length log.lemmas
lemma_count Trails trails = trail_lemmas trails

-- what the report of a drawn cell says of it: its lemmas, and the gates whose half columns are filled
abbrev pub evidence_counts : (evidence : Evidence) → Certificate evidence → List ℕ
evidence_counts Log log = count_line (codes "lemmas ") (length log.lemmas)
evidence_counts Trails trails = counts_text (trail_lemmas trails) (fill_count trails)

-- what the report of a plan says: the row, and of a certificate by trails its counts
abbrev pub planned_text : (evidence : Evidence) → Subckt → List Column → Certificate evidence → List ℕ
planned_text Log cell row log = plan_text cell.name cell.nets row
planned_text Trails cell row trails = plan_text cell.name cell.nets row ++ evidence_counts Trails trails

-- ---- files

-- the text of the evidence in a file of this name, the bytes of the drawing and the text of its abstract are there, and
-- all other files are as before
pub record HasCell (file out text bytes summary : List ℕ) (old new : Files) : Type 0 where
  pub evidence : new file ≡ Some text
  pub drawing : new (out ++ codes ".gds") ≡ Some bytes
  pub lef : new (out ++ codes ".lef") ≡ Some summary
  pub others : (name : List ℕ)
      → name ≢ file → name ≢ out ++ codes ".gds" → name ≢ out ++ codes ".lef"
      → new name ≡ old name

-- the text of the evidence is there, and all other files are as before
pub record HasEvidence (file text : List ℕ) (old new : Files) : Type 0 where
  pub evidence : new file ≡ Some text
  pub others : (name : List ℕ) → name ≢ file → new name ≡ old name
