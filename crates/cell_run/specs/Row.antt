-- What a call of `row` leaves: the library of its cells side by side, with its evidence, or why there is none.
use Rattle.std.specs.Prelude.{ℕ, ◌≡◌, ◌≢◌, ◌⊎◌, IsTrue, List, [], ◌∷◌, ◌++◌, codes, length, map, All, Option, Some}
use Rattle.cell_io.specs.Desk.{Files, View, Both}
use Rattle.call_end.specs.Deliver.{Says}
use Rattle.call_end.specs.End.{reports}
use Rattle.call_end.specs.Status.{first_line}
use Rattle.call_end.specs.declared.end.End.{End}
use Rattle.call_end.specs.declared.status.Status.{Status}
use Rattle.call_end.specs.declared.status.Status.TheVariants as status
use Rattle.call_read.specs.declared.refusal.Refusal.{Refusal}
use Rattle.call_words.specs.Asked.{RowAsked}
use Rattle.call_words.specs.Words.{Form, Row}
use Rattle.call_words.specs.declared.evidence.Evidence.TheVariants.{Log}
use Rattle.call_work.specs.Commands.{Rowing}
use Rattle.call_work.specs.Ends.{is_among, refusal_status}
use Rattle.cell_inputs.specs.Inputs.{Inputs}
use Rattle.cell_inputs.specs.Style.{plain_style}
use Rattle.cell_num.specs.Names.{lowered}
use Rattle.cell_run.specs.Ended.{Gathers, IsOfKind, IsToldFault, WhereEnds}
use Rattle.cell_run.specs.From.{IsMakeFrom}
use Rattle.cell_run.specs.Headline.{CanBeDrawn, IsMake, OfFirstLeast}
use Rattle.cell_run.specs.Low.{IsMakeLow}
use Rattle.cell_report.specs.Faults.{fault_line}
use Rattle.cell_report.specs.RowFaults.{row_fault}
use Rattle.row_abut.specs.declared.cell.RowFault.{RowFault}
use Rattle.cell_make.specs.CellOfRow.{StopAnswer}
use Rattle.cell_make.specs.RowInputs.{RowInputs}
use Rattle.cell_make.specs.Rowed.{AreInputsOf, AreMade, IsRefused, IsRowFault, IsRowed, IsStopped, IsUnabutted}
use Rattle.cell_make.specs.Rowed.{MadeCell, row_cells, row_height, row_library, row_width}
use Rattle.cell_make.specs.declared.row_outcome.InputFault.{InputFault}
use Rattle.layout_commands.specs.Row.{IsStoppedEnd, input_end, row_text}

abbrev pub IsRow : Option Form → Type 0
IsRow form = IsOfKind Rowing form

-- so it is of what a row is made of, where its files are there and the technology is accepted, and of what the name of
-- its file begins with
abbrev pub OfRow : Files → Option Form → (RowInputs → List ℕ → Type 0) → Type 0
OfRow files form Says = Gathers Rowing files form (λ m. Says m.inputs m.stem)

-- The words ask for it so: `row TECH SPICE OUT TOP CELL CELL ..`, with all names in lower case, and with `--low` after
-- them for the lowest row of each cell.
pub record IsRowAskedFor (form : Option Form) (r : RowInputs) (out : List ℕ) : Type 0 where
  pub asked : RowAsked
  pub words : form ≡ Some (Row asked out)
  pub top : r.top ≡ lowered asked.top
  pub names : r.names ≡ map lowered asked.cells
  pub choice : r.choice ≡ asked.choice

-- the library is there, and all other files are as before
pub record HasLibrary (out bytes : List ℕ) (old new : Files) : Type 0 where
  pub library : new (out ++ codes ".gds") ≡ Some bytes
  pub others : (name : List ℕ) → name ≢ out ++ codes ".gds" → new name ≡ old name

-- All cells are made, each of them its first least row, drawn, or with `--low` its lowest one as `make .. --low` has
-- it. Side by side they obey every rule and extract to the fingers of all of them. The library in `OUT.gds` decodes
-- with the row's name to them side by side, and with each cell's name to its drawing. The report says the row's name,
-- the number of its cells, and its width and height.
pub record IsRowedLibrary (r : RowInputs) (out : List ℕ) (old new : View) : Type 0 where
  pub made : List MadeCell
  pub rowed : IsRowed r made
  pub files : Both (HasLibrary out (row_library r made)) old.made new.made
  pub says :
      Both (Says (first_line status.Done ++ row_text r.top (length r.names) (row_width made) (row_height made)))
      old.said new.said

-- The first cell that is not made has no drawing: a cycle of nets, a height that is not enough, or a search that spent
-- its budget, whose log is reported; or with `--low` a cycle of its first least row, where the search for a row that
-- can be wired spent its budget. No file is made.
pub record IsStoppedRow (r : RowInputs) (answer : Status) (old new : View) : Type 0 where
  pub before : List MadeCell
  pub inputs : Inputs
  pub comes : StopAnswer
  pub stopped : IsStopped r before inputs comes
  pub end : End
  pub ends : IsStoppedEnd inputs comes end
  pub status : answer ≡ end.status
  pub says : Both (Says end.report) old.said new.said
  pub files : new.made ≡ old.made

-- the first cell that is not made has no inputs
pub record IsRefusedRow (r : RowInputs) (old new : View) : Type 0 where
  pub before : List MadeCell
  pub name : List ℕ
  pub fault : InputFault
  pub refused : IsRefused r before name fault
  pub says : Both (Says (input_end fault).report) old.said new.said

-- the fault of the technology was reported, or that of a cell
abbrev pub IsInputRefusal : Refusal → Type 0
IsInputRefusal e = refusal_status e ≡ status.Input

abbrev pub IsMisreadRow : Files → Option Form → View → View → Type 0
IsMisreadRow files form old new =
    IsToldFault IsInputRefusal files form old new ⊎ OfRow files form (λ r out. IsRefusedRow r old new)

-- what is reported of such a fault
abbrev pub TellsRowFault : RowFault → View → View → Type 0
TellsRowFault fault old new =
    Both (Says (reports status.Row (fault_line (codes "row") (row_fault fault))).report) old.said new.said

-- all cells are made, but they can't be side by side: their heights differ, or the channels of two neighbours
pub record IsUnabuttedRow (r : RowInputs) (old new : View) : Type 0 where
  pub made : List MadeCell
  pub fault : RowFault
  pub unabutted : IsUnabutted r made fault
  pub says : TellsRowFault fault old new

-- the statuses of a row whose next cell has no drawing
abbrev pub stop_statuses : List Status
stop_statuses = status.Cycle ∷ status.Unfinished ∷ status.TooTall ∷ []

abbrev pub IsStopStatus : Status → Type 0
IsStopStatus settled = IsTrue (is_among stop_statuses settled)

-- where a row ends so, this holds of it, and of what its words ask for
abbrev pub WhereRowEnds : Files → Option Form → Status → Status → (RowInputs → List ℕ → Type 0) → Type 0
WhereRowEnds files form answer settled Says =
    WhereEnds Rowing files form answer settled (λ m. IsRowAskedFor form m.inputs m.stem × Says m.inputs m.stem)

-- ---- how `row` has to end

-- the cell of this name has inputs, the budget is enough for them, and its first least row can be drawn: then its
-- lowest row can be, too
pub record CanBeMade (r : RowInputs) (name : List ℕ) : Type 0 where
  pub inputs : Inputs
  pub of : AreInputsOf r inputs
  pub named : inputs.cell.name ≡ name
  pub drawn : OfFirstLeast CanBeDrawn Log plain_style inputs []

-- so it is of each cell, and the made cells are side by side
pub record CanBeRowed (r : RowInputs) : Type 0 where
  pub each : All (CanBeMade r) r.names
  pub beside : (made : List MadeCell) → AreMade r r.names made
      → (fault : RowFault) → IsRowFault (row_cells made) fault → ⊥

-- so it is of each cell, and this fault keeps the made cells from standing side by side
pub record IsKeptApart (r : RowInputs) (fault : RowFault) : Type 0 where
  pub each : All (CanBeMade r) r.names
  pub apart : (made : List MadeCell) → AreMade r r.names made → IsRowFault (row_cells made) fault

-- with status 12, and this fault reported, or memory ran out
abbrev pub IsApartOrShort : RowFault → Status → View → View → Type 0
IsApartOrShort fault answer old new =
    ((answer ≡ status.Row) × TellsRowFault fault old new) ⊎ (answer ≡ status.NoMemory)

-- ---- calls that make files

-- a call of `make`, for a row that is searched for, for that of a given file or for the lowest one, or of `row`
abbrev pub MayMakeFiles : Option Form → Type 0
MayMakeFiles form = IsMake form ⊎ IsRow form ⊎ IsMakeFrom form ⊎ IsMakeLow form

-- the statuses of a row that may leave a file
abbrev pub row_file_statuses : List Status
row_file_statuses = status.Done ∷ status.WriteFault ∷ status.NoMemory ∷ []

abbrev pub MayLeaveFile : Status → Type 0
MayLeaveFile answer = IsTrue (is_among row_file_statuses answer)
