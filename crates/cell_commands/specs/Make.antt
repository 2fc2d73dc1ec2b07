-- What `make` results in, with any evidence: its files, and its report.
use Rattle.std.specs.Prelude.{ℕ, List, [], ◌++◌}
use Rattle.cell_num.specs.declared.net.NetNo.{NetNo}
use Rattle.row_model.specs.declared.column.Column.{Column}
use Rattle.spice_net.specs.declared.subckt.Subckt.{Subckt}
use Rattle.call_end.specs.declared.end.End.{End}
use Rattle.call_end.specs.declared.status.Status.TheVariants as status
use Rattle.call_end.specs.Status.{first_line}
use Rattle.call_words.specs.declared.evidence.Evidence.{Evidence}
use Rattle.cell_inputs.specs.declared.style.Style.{Style}
use Rattle.cell_inputs.specs.Inputs.{Inputs}
use Rattle.cell_make.specs.Rows.{Draws, DrawAnswer}
use Rattle.cell_report.specs.Logs.{unfinished_text}
use Rattle.cell_commands.specs.declared.certificate.Certificate.{Certificate}
use Rattle.cell_commands.specs.Certificate.{lemma_count, row_evidence}
use Rattle.cell_commands.specs.Searched.{Crowds, IsFoundBy, IsOpenBy}
use Rattle.call_end.specs.End.{IsEnd}
use Rattle.cell_commands.specs.RowEnd.{IsRowEnd, RowEvidence}
use Rattle.cell_commands.specs.Evidence.{gate_text}

pub data MakeAnswer : Type 0 where
  Made : (row : List Column) (certificate : Certificate) (answer : DrawAnswer) → MakeAnswer
  Open : (proved : ℕ) (certificate : Certificate) → MakeAnswer
  Crowded : (gate : NetNo) → MakeAnswer

-- The row is the first least one, with a certificate that is accepted and lists it, and drawing it results in this;
-- or a certificate proves that many gaps of every row; or the fingers of a gate pair in too many ways.
abbrev pub Makes : Evidence → Style → Inputs → MakeAnswer → Type 0
Makes evidence style inputs (Made row certificate answer) =
    IsFoundBy evidence inputs row certificate × Draws style inputs row answer
Makes evidence style inputs (Open proved certificate) = IsOpenBy evidence inputs proved certificate
Makes evidence style inputs (Crowded gate) = Crowds evidence inputs gate

-- what drawing the row results in, with this evidence
abbrev pub IsDrawnTo : Style → Inputs → List ℕ → List Column → RowEvidence → End → Type 0
IsDrawnTo style inputs out row evidence end =
    (answer : DrawAnswer) × Draws style inputs row answer × IsRowEnd style inputs out row evidence answer end

abbrev pub IsOpenEnd : Subckt → List ℕ → ℕ → Certificate → End → Type 0
IsOpenEnd cell out proved certificate =
    IsEnd status.Unfinished (row_evidence cell out certificate).files
    (first_line status.Unfinished ++ unfinished_text proved (lemma_count certificate))

abbrev pub IsMakeEnd : Style → Inputs → List ℕ → MakeAnswer → End → Type 0
IsMakeEnd style inputs out (Made row certificate answer) =
    IsRowEnd style inputs out row (row_evidence inputs.cell out certificate) answer
IsMakeEnd style inputs out (Open proved certificate) = IsOpenEnd inputs.cell out proved certificate
IsMakeEnd style inputs out (Crowded gate) =
    IsEnd status.Unfinished [] (first_line status.Unfinished ++ gate_text inputs.cell gate)

-- in a style
abbrev pub MakesTo : Evidence → Style → Inputs → List ℕ → End → Type 0
MakesTo evidence style inputs out end =
    (answer : MakeAnswer) × Makes evidence style inputs answer × IsMakeEnd style inputs out answer end
