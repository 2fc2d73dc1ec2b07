-- The commands: what the forms of a call read, in order, what they then work on, and what the work results in. Each
-- definition has a line for each of them.
use Rattle.std.specs.Prelude.{ℕ, ◌≡◌, List, [], ◌∷◌, ◌++◌, Option, Some, None, Ok, Err}
use Rattle.layout_commands.specs.Agree.{AgreesTo, comparing}
use Rattle.layout_commands.specs.declared.compared.Compared.{Compared}
use Rattle.call_end.specs.declared.end.End.{End}
use Rattle.call_end.specs.declared.status.Status.{Status}
use Rattle.call_end.specs.declared.status.Status.TheVariants as status
use Rattle.call_read.specs.InputFiles.{inputs_from, input_files, tech_files}
use Rattle.call_read.specs.Reading.{Reading, Ends, bytes_of, ◌>>=◌}
use Rattle.call_read.specs.Sources.{Source, GdsFile, LefFile, TrackFile}
use Rattle.call_read.specs.declared.refusal.Refusal.TheVariants.{Words}
use Rattle.call_words.specs.declared.evidence.Evidence.{Evidence}
use Rattle.call_words.specs.Words.{Form, Plan, Make, MakeFrom, MakeLow, Check, CheckLow, Extract, Bench, Row, Agree}
use Rattle.bench_command.specs.Report.{BenchesTo}
use Rattle.call_work.specs.Evidence.{IsReadAs, evidence_file}
use Rattle.call_work.specs.declared.commands.Material.{Material as Kept}
use Rattle.call_work.specs.declared.commands.Material.TheVariants as kept
use Rattle.call_work.specs.declared.commands.ReadMaterial.{ReadMaterial as Own}
use Rattle.call_work.specs.declared.commands.ReadMaterial.TheVariants as read
use Rattle.call_work.specs.declared.material.EvidenceFile.{EvidenceFile}
use Rattle.call_work.specs.declared.material.LowCheckMaterial.{LowCheckMaterial}
use Rattle.call_work.specs.declared.material.LowMaterial.{LowMaterial}
use Rattle.call_work.specs.declared.material.MakeMaterial.{MakeMaterial}
use Rattle.call_work.specs.declared.material.PlanMaterial.{PlanMaterial}
use Rattle.call_work.specs.declared.material.RowMaterial.{RowMaterial}
use Rattle.cell_inputs.specs.declared.style.Style.{Style}
use Rattle.cell_inputs.specs.Inputs.{Inputs}
use Rattle.cell_commands.specs.Given.{ChecksBy, MakesFromTo}
use Rattle.cell_commands.specs.Low.{MakesLowTo}
use Rattle.cell_commands.specs.LowCheck.{LowChecksTo}
use Rattle.cell_commands.specs.Make.{MakesTo}
use Rattle.cell_commands.specs.Plan.{PlansTo}
use Rattle.layout_commands.specs.Extract.{ExtractsTo, extracting}
use Rattle.layout_commands.specs.declared.gds_cell.GdsCell.{GdsCell}
use Rattle.cell_make.specs.RowInputs.{RowInputs}
use Rattle.layout_commands.specs.Row.{RowsTo, rowing}

-- ---- kinds: what a call works on, and which statuses it may end with, follow from its kind

pub data Kind : Type 0 where
  Planning : Kind
  Making : Kind
  MakingFrom : Kind
  MakingLow : Kind
  Checking : Kind
  CheckingLow : Kind
  Extracting : Kind
  Benching : Kind
  Rowing : Kind
  Agreeing : Kind

abbrev pub kind_of : Form → Kind
kind_of (Plan cell evidence) = Planning
kind_of (Make cell out style evidence) = Making
kind_of (MakeFrom cell out style file evidence) = MakingFrom
kind_of (MakeLow cell out style evidence) = MakingLow
kind_of (Check cell file evidence) = Checking
kind_of (CheckLow cell file) = CheckingLow
kind_of (Extract tech gds cell rules) = Extracting
kind_of (Bench number) = Benching
kind_of (Row row out) = Rowing
kind_of (Agree tech gds lef cell) = Agreeing

-- ---- what is read

-- the inputs of a cell, a kind of evidence, and the bytes of a file to check as one
pub record CheckMaterial : Type 0 where
  pub inputs : Inputs
  pub evidence : Evidence
  pub bytes : List ℕ

-- the same of a file whose row is to be drawn in a style, and what the names of the drawing's files begin with
pub record FromMaterial : Type 0 where
  pub inputs : Inputs
  pub evidence : Evidence
  pub bytes : List ℕ
  pub stem : List ℕ
  pub style : Style

-- What a call works on: of a plan or a drawing its inputs and the evidence, of a check or of the drawing of a file's
-- row the bytes besides, of a check of tracks its inputs and the bytes; a cell of a GDSII file, and the deck that it
-- is checked by; a number of generated cells; what a row of cells is made of; a cell and its macro.
abbrev pub MaterialOf : Kind → Type 0
MaterialOf Planning = PlanMaterial
MaterialOf Making = MakeMaterial
MaterialOf MakingFrom = FromMaterial
MaterialOf MakingLow = LowMaterial
MaterialOf Checking = CheckMaterial
MaterialOf CheckingLow = LowCheckMaterial
MaterialOf Extracting = GdsCell
MaterialOf Benching = ℕ
MaterialOf Rowing = RowMaterial
MaterialOf Agreeing = Compared

abbrev pub Material : Type 0
Material = (kind : Kind) × MaterialOf kind

abbrev pub planning : Evidence → Inputs → Material
planning evidence inputs = (Planning, record { inputs = inputs; evidence = evidence })

abbrev pub making : Evidence → List ℕ → Style → Inputs → Material
making evidence out style inputs =
    (Making, record { inputs = inputs; stem = out; style = style; evidence = evidence })

abbrev pub making_from : Evidence → List ℕ → Style → Inputs → List ℕ → Material
making_from evidence out style inputs bytes =
    (MakingFrom, record { inputs = inputs; evidence = evidence; bytes = bytes; stem = out; style = style })

abbrev pub making_low : Evidence → List ℕ → Style → Inputs → Material
making_low evidence out style inputs =
    (MakingLow, record { inputs = inputs; stem = out; style = style; evidence = evidence })

abbrev pub checking : Evidence → Inputs → List ℕ → Material
checking evidence inputs bytes = (Checking, record { inputs = inputs; evidence = evidence; bytes = bytes })

abbrev pub checking_low : Inputs → List ℕ → Material
checking_low inputs bytes = (CheckingLow, record { inputs = inputs; bytes = bytes })

abbrev pub rowing_of : List ℕ → RowInputs → Material
rowing_of out inputs = (Rowing, record { inputs = inputs; stem = out })

-- the evidence, or the certificate of the tracks, is read after the inputs
abbrev pub checking_over : Evidence → List ℕ → Inputs → Reading Material
checking_over evidence file inputs =
    bytes_of (evidence_file evidence file) >>= λ bytes. Ends (Ok (checking evidence inputs bytes))

abbrev pub checking_low_over : List ℕ → Inputs → Reading Material
checking_low_over file inputs = bytes_of (TrackFile file) >>= λ bytes. Ends (Ok (checking_low inputs bytes))

abbrev pub making_over : Evidence → List ℕ → Style → List ℕ → Inputs → Reading Material
making_over evidence out style file inputs =
    bytes_of (evidence_file evidence file) >>= λ bytes. Ends (Ok (making_from evidence out style inputs bytes))

abbrev pub gathered : Option Form → Reading Material
gathered None = Ends (Err Words)
gathered (Some (Plan asked evidence)) = inputs_from asked >>= λ inputs. Ends (Ok (planning evidence inputs))
gathered (Some (Make asked out style evidence)) =
    inputs_from asked >>= λ inputs. Ends (Ok (making evidence out style inputs))
gathered (Some (MakeFrom asked out style file evidence)) =
    inputs_from asked >>= making_over evidence out style file
gathered (Some (MakeLow asked out style evidence)) =
    inputs_from asked >>= λ inputs. Ends (Ok (making_low evidence out style inputs))
gathered (Some (Check asked file evidence)) = inputs_from asked >>= checking_over evidence file
gathered (Some (CheckLow asked file)) = inputs_from asked >>= checking_low_over file
gathered (Some (Extract tech gds cell rules)) =
    extracting tech gds cell rules >>= λ drawn. Ends (Ok (Extracting, drawn))
gathered (Some (Bench number)) = Ends (Ok (Benching, number))
gathered (Some (Row row out)) = rowing row >>= λ inputs. Ends (Ok (rowing_of out inputs))
gathered (Some (Agree tech gds lef cell)) = comparing tech gds lef cell >>= λ both. Ends (Ok (Agreeing, both))

-- the files that a form reads, in order
abbrev pub read_by : Option Form → List Source
read_by None = []
read_by (Some (Plan asked evidence)) = input_files asked.tech asked.spice
read_by (Some (Make asked out style evidence)) = input_files asked.tech asked.spice
read_by (Some (MakeFrom asked out style file evidence)) =
    input_files asked.tech asked.spice ++ evidence_file evidence file ∷ []
read_by (Some (MakeLow asked out style evidence)) = input_files asked.tech asked.spice
read_by (Some (Check asked file evidence)) =
    input_files asked.tech asked.spice ++ evidence_file evidence file ∷ []
read_by (Some (CheckLow asked file)) = input_files asked.tech asked.spice ++ TrackFile file ∷ []
read_by (Some (Extract tech gds cell rules)) = tech_files tech ++ GdsFile gds ∷ []
read_by (Some (Bench number)) = []
read_by (Some (Row row out)) = input_files row.tech row.spice
read_by (Some (Agree tech gds lef cell)) = tech_files tech ++ GdsFile gds ∷ LefFile lef ∷ []

-- how the program keeps it
abbrev pub IsKept : Material → Kept → Type 0
IsKept m (kept.Bench number) = m ≡ (Benching, number)
IsKept m (kept.Read (read.Planning x)) = m ≡ (Planning, x)
IsKept m (kept.Read (read.Making x)) = m ≡ (Making, x)
IsKept m (kept.Read (read.MakingFrom x)) =
    (evidence : Evidence)
    × (bytes : List ℕ)
    × (m ≡ making_from evidence x.stem x.style x.inputs bytes)
    × IsReadAs evidence x.inputs bytes x.file
IsKept m (kept.Read (read.MakingLow x)) = m ≡ (MakingLow, x)
IsKept m (kept.Read (read.Checking x)) =
    (evidence : Evidence)
    × (bytes : List ℕ)
    × (m ≡ checking evidence x.inputs bytes)
    × IsReadAs evidence x.inputs bytes x.file
IsKept m (kept.Read (read.CheckingLow x)) = m ≡ (CheckingLow, x)
IsKept m (kept.Read (read.Extracting cell)) = m ≡ (Extracting, cell)
IsKept m (kept.Read (read.Rowing x)) = m ≡ (Rowing, x)
IsKept m (kept.Read (read.Agreeing both)) = m ≡ (Agreeing, both)

-- ---- what the work results in

abbrev pub WorksTo : (kind : Kind) → MaterialOf kind → End → Type 0
WorksTo Planning m end = PlansTo m.evidence m.inputs end
WorksTo Making m end = MakesTo m.evidence m.style m.inputs m.stem end
WorksTo MakingFrom m end = MakesFromTo m.evidence m.style m.inputs m.bytes m.stem end
WorksTo MakingLow m end = MakesLowTo m.evidence m.style m.inputs m.stem end
WorksTo Checking m end = ChecksBy m.evidence m.inputs m.bytes end
WorksTo CheckingLow m end = LowChecksTo m.inputs m.bytes end
WorksTo Extracting cell end = ExtractsTo cell end
WorksTo Benching number end = BenchesTo number end
WorksTo Rowing m end = RowsTo m.inputs m.stem end
WorksTo Agreeing both end = AgreesTo both end

-- so it is of a file, whatever evidence and bytes it was read as
abbrev pub OfFile : Inputs → EvidenceFile → (Evidence → List ℕ → Type 0) → Type 0
OfFile inputs file Says =
    (evidence : Evidence) (bytes : List ℕ) → IsReadAs evidence inputs bytes file → Says evidence bytes

abbrev pub ChecksOn : Inputs → EvidenceFile → End → Type 0
ChecksOn inputs file end = OfFile inputs file (λ evidence bytes. ChecksBy evidence inputs bytes end)

abbrev pub MakesFromOn : Style → Inputs → EvidenceFile → List ℕ → End → Type 0
MakesFromOn style inputs file out end =
    OfFile inputs file (λ evidence bytes. MakesFromTo evidence style inputs bytes out end)

-- the same of what the program keeps
abbrev pub WorksOn : Own → End → Type 0
WorksOn (read.Planning m) end = PlansTo m.evidence m.inputs end
WorksOn (read.Making m) end = MakesTo m.evidence m.style m.inputs m.stem end
WorksOn (read.MakingFrom m) end = MakesFromOn m.style m.inputs m.file m.stem end
WorksOn (read.MakingLow m) end = MakesLowTo m.evidence m.style m.inputs m.stem end
WorksOn (read.Checking m) end = ChecksOn m.inputs m.file end
WorksOn (read.CheckingLow m) end = LowChecksTo m.inputs m.bytes end
WorksOn (read.Extracting cell) end = ExtractsTo cell end
WorksOn (read.Rowing m) end = RowsTo m.inputs m.stem end
WorksOn (read.Agreeing both) end = AgreesTo both end

-- the statuses that the words or the files call for: a search alone is unfinished, a making alone, of one cell or of a
-- row, meets a cycle or is too tall, a checked file or a layout alone is rejected, a GDSII file alone holds no
-- netlist, cells of a row alone can't be side by side, and an abstract alone does not agree
abbrev pub settled_by : Kind → List Status
settled_by Planning = status.Done ∷ status.Input ∷ status.Unfinished ∷ []
settled_by Making = status.Done ∷ status.Input ∷ status.Cycle ∷ status.Unfinished ∷ status.TooTall ∷ []
settled_by MakingFrom = status.Done ∷ status.Input ∷ status.Cycle ∷ status.Rejected ∷ status.TooTall ∷ []
settled_by MakingLow = status.Done ∷ status.Input ∷ status.Cycle ∷ status.Unfinished ∷ status.TooTall ∷ []
settled_by Checking = status.Done ∷ status.Input ∷ status.Rejected ∷ []
settled_by CheckingLow = status.Done ∷ status.Input ∷ status.Rejected ∷ []
settled_by Extracting = status.Done ∷ status.Input ∷ status.Rejected ∷ status.Layout ∷ []
settled_by Benching = status.Done ∷ []
settled_by Rowing =
    status.Done ∷ status.Input ∷ status.Cycle ∷ status.Unfinished ∷ status.TooTall ∷ status.Row ∷ []
settled_by Agreeing = status.Done ∷ status.Input ∷ status.Layout ∷ status.Disagree ∷ []
