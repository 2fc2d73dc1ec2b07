-- What a call of `make` with a given file leaves, and how it has to end.
use Rattle.std.specs.Prelude.{ℕ, ◌≡◌, List, Option, Some, Ok, IfSome}
use Rattle.cell_io.specs.Desk.{Files, View, Both}
use Rattle.cell_num.specs.Names.{lowered}
use Rattle.row_model.specs.declared.column.Column.{Column}
use Rattle.call_end.specs.Deliver.{Says}
use Rattle.call_end.specs.declared.end.End.{End}
use Rattle.call_end.specs.declared.status.Status.{Status}
use Rattle.call_read.specs.Reading.{bytes_of, called}
use Rattle.call_words.specs.Asked.{CellAsked}
use Rattle.call_words.specs.Words.{Form, MakeFrom}
use Rattle.call_work.specs.Commands.{FromMaterial, MakingFrom}
use Rattle.call_work.specs.Evidence.{evidence_file}
use Rattle.cell_inputs.specs.declared.style.Style.{Style}
use Rattle.cell_inputs.specs.Inputs.{Inputs}
use Rattle.cell_commands.specs.Given.{IsRefusedBy}
use Rattle.cell_run.specs.Ended.{Gathers, IsOfKind, WhereEnds}
use Rattle.cell_run.specs.Evidence.{Certificate, IsTextOfAccepted, IsTextOfCrowded}
use Rattle.cell_run.specs.Headline.{IsCyclicCell, IsMadeCell, IsTallCell}
use Rattle.cell_run.specs.Origin.{ListsIn, Origin, File}

abbrev pub IsMakeFrom : Option Form → Type 0
IsMakeFrom form = IsOfKind MakingFrom form

-- where the row comes from: the file that was read
abbrev pub file_of : FromMaterial → Origin
file_of m = File m.evidence m.bytes

-- The words ask for it so: `make TECH SPICE CELL OUT .. --from FILE`, in this style, with evidence of this kind in the
-- file, which holds these bytes. The cell has the name CELL in lower case, and the names of its files begin with OUT.
pub record IsAskedFrom (files : Files) (form : Option Form) (m : FromMaterial) : Type 0 where
  pub asked : CellAsked
  pub file : List ℕ
  pub words : form ≡ Some (MakeFrom asked m.stem m.style file m.evidence)
  pub name : m.inputs.cell.name ≡ lowered asked.cell
  pub holds : called files (bytes_of (evidence_file m.evidence file)) ≡ Ok m.bytes

-- so it is where the call ends with this status
abbrev pub WhereFromEnds : Files → Option Form → Status → Status → (FromMaterial → Type 0) → Type 0
WhereFromEnds files form answer settled Says =
    WhereEnds MakingFrom files form answer settled (λ m. IsAskedFrom files form m × Says m)

-- over files that are shown, so it is of the inputs and of the desk before and after the call, where it ends so
abbrev pub IfFrom : View → View → Option Form → Status → Status → (FromMaterial → View → View → Type 0) → Type 0
IfFrom old new form answer settled Says =
    IfSome old.given (λ files. WhereFromEnds files form answer settled (λ m. Says m old new))

-- the row that the file lists is drawn; or nets of it are above each other in a cycle; or it needs more than the
-- height
abbrev pub IsMadeFrom : FromMaterial → View → View → Type 0
IsMadeFrom m old new = IsMadeCell (file_of m) m.style m.inputs m.stem old new

abbrev pub IsCyclicFrom : FromMaterial → View → View → Type 0
IsCyclicFrom m old new = IsCyclicCell (file_of m) m.style m.inputs m.stem old new

abbrev pub IsTallFrom : FromMaterial → View → View → Type 0
IsTallFrom m old new = IsTallCell (file_of m) m.style m.inputs m.stem old new

-- A check of the file does not accept it. The report of the check was said, and no file is made.
pub record IsRefusedFile (m : FromMaterial) (old new : View) : Type 0 where
  pub end : End
  pub refused : IsRefusedBy m.evidence m.inputs m.bytes end
  pub says : Both (Says end.report) old.said new.said
  pub files : new.made ≡ old.made

-- ---- how it has to end

-- all that it reads is there, the inputs are accepted, and so it is of what it reads
abbrev pub FromFile : Files → Option Form → (FromMaterial → Type 0) → Type 0
FromFile files form Says = Gathers MakingFrom files form Says

-- the file is accepted, no gate in it has too many ways to pair its fingers, and so it is of the row that it lists
abbrev pub OfListed : (Style → Inputs → List Column → Type 0) → FromMaterial → Type 0
OfListed Says m =
    IsTextOfAccepted m.evidence m.inputs m.bytes
    × (IsTextOfCrowded m.evidence m.inputs m.bytes → ⊥)
    × ((row : List Column) (certificate : Certificate m.evidence)
    → ListsIn m.evidence m.inputs m.bytes row certificate → Says m.style m.inputs row)

-- the file is not accepted
abbrev pub IsUnaccepted : FromMaterial → Type 0
IsUnaccepted m = IsTextOfAccepted m.evidence m.inputs m.bytes → ⊥
