-- What making a row of cells results in: a library of its cells and of the row, or why there is none.
use Rattle.std.specs.Prelude.{ℕ, ◌≡◌, List, ◌∷◌, ◌++◌, map, All, AllPairs, Ok, Err}
use Rattle.std.specs.List.{sum_by}
use Rattle.bound_log.specs.declared.log.Log.{Log}
use Rattle.cell_draw.specs.declared.drawing.Drawing.{Drawing}
use Rattle.cell_draw.specs.declared.layout.Frame.{Frame}
use Rattle.cell_draw.specs.Extracted.{ExtractsTo}
use Rattle.cell_inputs.specs.Inputs.{Inputs, unit_nm}
use Rattle.cell_make.specs.Extent.{frame_in}
use Rattle.cell_make.specs.CellOfRow.{IsMadeBy, StopAnswer, StopsBy, TellsWhy}
use Rattle.cell_make.specs.Making.{drawing_in}
use Rattle.channel_route.specs.declared.routing.Routing.{Routing}
use Rattle.finger_fold.specs.Folding.{folded}
use Rattle.gds_read.specs.Decoding.{Decodes}
use Rattle.gds_write.specs.Written.{library_of}
use Rattle.row_abut.specs.Circuit.{fingers_of_row, names_of_row}
use Rattle.row_abut.specs.Faults.{ClashInChannel, DifferInHeight, first_height}
use Rattle.row_abut.specs.Row.{flat_row}
use Rattle.row_abut.specs.Structs.{abutted}
use Rattle.row_abut.specs.declared.cell.RowCell.{RowCell}
use Rattle.row_abut.specs.declared.cell.RowFault.{RowFault}
use Rattle.row_abut.specs.declared.cell.RowFault.TheVariants.{Heights, Channel, NoMemory}
use Rattle.cell_make.specs.RowInputs.{RowInputs}
use Rattle.cell_make.specs.declared.row_outcome.InputFault.{InputFault}
use Rattle.cell_make.specs.declared.row_outcome.InputFault.TheVariants.{Spice, Fold}
use Rattle.cell_make.specs.declared.row_outcome.RowOutcome.{RowOutcome}
use Rattle.cell_make.specs.declared.row_outcome.RowOutcome.TheVariants as outcome
use Rattle.row_model.specs.declared.column.Column.{Column}
use Rattle.scmos_rules.specs.Rules.{Obeys}
use Rattle.scmos_rules.specs.declared.rules.Deck.TheVariants.{Plain}
use Rattle.spice_net.specs.Subcircuit.{subcircuit}
use Rattle.spice_net.specs.declared.subckt.Subckt.{Subckt}

-- ---- the cells

-- the inputs are read from the row's file, by its technology
pub record AreInputsOf (r : RowInputs) (inputs : Inputs) : Type 0 where
  pub tech : inputs.tech ≡ r.tech
  pub cell : subcircuit r.spice inputs.cell.name r.tech ≡ Ok inputs.cell
  pub fingers : folded r.tech inputs.cell ≡ Ok inputs.fingers

-- a cell that was made: its inputs, its row, the log of its gaps, its channel and the positions of its lines
pub record MadeCell : Type 0 where
  pub inputs : Inputs
  pub row : List Column
  pub log : Log
  pub routing : Routing
  pub lines : List ℕ

abbrev pub cell_name : MadeCell → List ℕ
cell_name m = m.inputs.cell.name

abbrev pub cell_frame : MadeCell → Frame
cell_frame m = frame_in m.inputs m.row m.routing m.lines

abbrev pub cell_drawing : MadeCell → Drawing
cell_drawing m = drawing_in m.inputs m.row m.routing m.lines

-- so it is of the cell's inputs and of the row that is asked for
pub record IsMadeCell (r : RowInputs) (m : MadeCell) : Type 0 where
  pub of : AreInputsOf r m.inputs
  pub made : IsMadeBy r.choice m.inputs m.row m.log m.routing m.lines

-- two of one name are one
pub record IsOneByName (a b : MadeCell) : Type 0 where
  pub one : cell_name a ≡ cell_name b → a ≡ b

-- cells of these names
pub record AreMade (r : RowInputs) (names : List (List ℕ)) (made : List MadeCell) : Type 0 where
  pub named : map cell_name made ≡ names
  pub each : All (IsMadeCell r) made
  pub once : AllPairs IsOneByName made

-- ---- side by side

abbrev pub row_cell : MadeCell → RowCell
row_cell m = record {
  name = m.inputs.cell.name;
  nets = m.inputs.cell.nets;
  pins = m.inputs.cell.pins;
  drawing = cell_drawing m;
  edges = record { n = (cell_frame m).n_edge; p = (cell_frame m).p_edge };
}

abbrev pub row_cells : List MadeCell → List RowCell
row_cells made = map row_cell made

-- a structure for each different cell, and after them the row
abbrev pub row_library : RowInputs → List MadeCell → List ℕ
row_library r made = library_of (abutted r.top (row_cells made)) (unit_nm r.tech)

abbrev pub row_width : List MadeCell → ℕ
row_width made = sum_by (λ (m : MadeCell). (cell_drawing m).width) made

abbrev pub row_height : List MadeCell → ℕ
row_height made = first_height (row_cells made)

-- why cells can't be side by side: their heights differ, or the channels of two neighbours
abbrev pub IsRowFault : List RowCell → RowFault → Type 0
IsRowFault cells (Heights first other) = DifferInHeight cells first other
IsRowFault cells (Channel left right) = ClashInChannel cells left right
IsRowFault cells NoMemory = ⊥

-- All cells are made, and nothing keeps them from standing side by side. So they obey every rule and extract, net by
-- net, to the fingers of all of them, where the nets of cell K but the rails are named `K#name`. The library decodes
-- with the row's name to them side by side, and with each cell's name to the drawing of that.
pub record IsRowed (r : RowInputs) (made : List MadeCell) : Type 0 where
  pub cells : AreMade r r.names made
  pub beside : (fault : RowFault) → IsRowFault (row_cells made) fault → ⊥
  pub obeys : Obeys Plain (flat_row (row_cells made)).rects
  pub extracts :
      ExtractsTo Plain (names_of_row (row_cells made))
      (fingers_of_row (row_cells made) (map (λ (m : MadeCell). m.inputs.fingers) made)) (flat_row (row_cells made))
  pub decodes : Decodes (row_library r made) r.top r.tech.lambda_nm (flat_row (row_cells made))
  pub each :
      All (λ (m : MadeCell). Decodes (row_library r made) (cell_name m) r.tech.lambda_nm (cell_drawing m).shapes) made

-- ---- why there is none

-- the cells of the first names are made, and this name comes next
pub record ComesNext (r : RowInputs) (before : List MadeCell) (name : List ℕ) : Type 0 where
  pub each : All (IsMadeCell r) before
  pub later : List (List ℕ)
  pub names : r.names ≡ map cell_name before ++ name ∷ later

-- the first fault of the subcircuit of this name, or of its folding
abbrev pub IsInputFault : RowInputs → List ℕ → InputFault → Type 0
IsInputFault r name (Spice f) = subcircuit r.spice name r.tech ≡ Err f
IsInputFault r name (Fold f) =
    (cell : Subckt) × (subcircuit r.spice name r.tech ≡ Ok cell) × (folded r.tech cell ≡ Err f)

-- the next cell has no inputs
pub record IsRefused (r : RowInputs) (before : List MadeCell) (name : List ℕ) (fault : InputFault) : Type 0 where
  pub next : ComesNext r before name
  pub is : IsInputFault r name fault

-- the next cell has no drawing
pub record IsStopped (r : RowInputs) (before : List MadeCell) (inputs : Inputs) (answer : StopAnswer) : Type 0 where
  pub next : ComesNext r before inputs.cell.name
  pub of : AreInputsOf r inputs
  pub stops : StopsBy r.choice inputs answer

-- all cells are made, and this fault keeps them from standing side by side
pub record IsUnabutted (r : RowInputs) (made : List MadeCell) (fault : RowFault) : Type 0 where
  pub cells : AreMade r r.names made
  pub is : IsRowFault (row_cells made) fault

-- ---- what it results in

pub data RowAnswer : Type 0 where
  Rowed : (made : List MadeCell) → RowAnswer
  Refused : (before : List MadeCell) (name : List ℕ) (fault : InputFault) → RowAnswer
  Stopped : (before : List MadeCell) (inputs : Inputs) (answer : StopAnswer) → RowAnswer
  Unabutted : (made : List MadeCell) (fault : RowFault) → RowAnswer

abbrev pub Rows : RowInputs → RowAnswer → Type 0
Rows r (Rowed made) = IsRowed r made
Rows r (Refused before name fault) = IsRefused r before name fault
Rows r (Stopped before inputs answer) = IsStopped r before inputs answer
Rows r (Unabutted made fault) = IsUnabutted r made fault

-- ---- as the code answers it

-- the bytes of the library, and the size of the row
pub record IsWritten (r : RowInputs) (made : List MadeCell) (library : List ℕ) (width height : ℕ) : Type 0 where
  pub bytes : library ≡ row_library r made
  pub wide : width ≡ row_width made
  pub high : height ≡ row_height made

abbrev pub ComesToRow : RowInputs → RowOutcome → Type 0
ComesToRow r (outcome.Rowed library width height) =
    (made : List MadeCell) × IsRowed r made × IsWritten r made library width height
ComesToRow r (outcome.Refused fault) = (before : List MadeCell) × (name : List ℕ) × IsRefused r before name fault
ComesToRow r (outcome.Stopped inputs why) =
    (before : List MadeCell) × (answer : StopAnswer) × IsStopped r before inputs answer × TellsWhy inputs why answer
ComesToRow r (outcome.Unabutted fault) = (made : List MadeCell) × IsUnabutted r made fault
