-- What making the generated cells results in, counted.
use Rattle.std.specs.Prelude.{ℕ, ◌≡◌, ◌<◌, ◌≤◌, ◌+◌, List, Ok, Some, fold, length, slice_get}
use Rattle.cell_num.specs.declared.finger.Fingers.{Fingers}
use Rattle.row_model.specs.declared.column.Column.{Column}
use Rattle.row_model.specs.Gaps.{gaps_of}
use Rattle.tech_file.specs.Technology.{plain}
use Rattle.spice_net.specs.Subcircuit.{subcircuit}
use Rattle.finger_fold.specs.Folding.{folded}
use Rattle.cell_inputs.specs.Inputs.{Inputs}
use Rattle.cell_inputs.specs.Style.{plain_style}
use Rattle.cell_make.specs.Making.{MakeAnswer, Made, Cyclic, Tall, Unfinished, Makes, drawing_in, library_of}
use Rattle.bench_command.specs.Text.{bench_text, cell_name}
use Rattle.bench_command.specs.declared.tally.Tally.{Tally}
use Rattle.bench_command.specs.Tally.{added, nothing}

-- ---- the cells

-- a generated cell as it is read, and what making it results in
pub record BenchCell : Type 0 where
  pub inputs : Inputs
  pub answer : MakeAnswer

-- the inputs of the cell of that number, read from the text by its name and the plain technology
pub record AreInputsOf (text : List ℕ) (cell : ℕ) (inputs : Inputs) : Type 0 where
  pub tech : inputs.tech ≡ plain
  pub read : subcircuit text (cell_name cell) plain ≡ Ok inputs.cell
  pub fold : folded plain inputs.cell ≡ Ok inputs.fingers

-- The cell of that number is read from the text, and made in the plain style.
pub record IsBenchCell (text : List ℕ) (cell : ℕ) (one : BenchCell) : Type 0 where
  pub read : AreInputsOf text cell one.inputs
  pub makes : Makes plain_style one.inputs one.answer

-- all cells of the text that are numbered below that many, in order
pub record AreCellsOf (text : List ℕ) (number : ℕ) (cells : List BenchCell) : Type 0 where
  pub many : length cells ≡ number
  pub each : (cell : ℕ) (one : BenchCell) → slice_get cells cell ≡ Some one → IsBenchCell text cell one

-- the generated cells that are numbered below that many, each read from the text of all of them
abbrev pub AreBenchCells : ℕ → List BenchCell → Type 0
AreBenchCells number cells = AreCellsOf (bench_text number) number cells

-- the text of generated cells, the one of that number among them
pub record HoldsCell (text : List ℕ) (cell : ℕ) : Type 0 where
  pub number : ℕ
  pub few : number ≤ 200
  pub is : text ≡ bench_text number
  pub below : cell < number

-- ---- what is counted

-- a made cell with its columns and gaps, the fingers of both rows and the bytes of its library
abbrev pub made_tally : Fingers → List Column → List ℕ → Tally
made_tally fingers row library = record nothing {
  made = 1;
  columns = length row;
  gaps = gaps_of row;
  fingers = length fingers.p + length fingers.n;
  bytes = length library;
}

-- what a cell counts as
abbrev pub counted_as : Inputs → MakeAnswer → Tally
counted_as inputs (Made row log routing xs) =
    made_tally inputs.fingers row (library_of inputs (drawing_in inputs row routing xs))
counted_as inputs (Cyclic row log ring) = record nothing { cycles = 1 }
counted_as inputs (Tall row log routing) = nothing
counted_as inputs (Unfinished proved log) = record nothing { unfinished = 1 }

abbrev pub counted_of : BenchCell → Tally
counted_of one = counted_as one.inputs one.answer

abbrev pub tally_of : List BenchCell → Tally
tally_of cells = fold (λ tally one. added tally (counted_of one)) nothing cells

-- the tally of the cell of that number
abbrev pub IsCountOf : List ℕ → ℕ → Tally → Type 0
IsCountOf text cell tally = (one : BenchCell) × IsBenchCell text cell one × (tally ≡ counted_of one)

-- the tally of all cells of the text that are numbered below that many
abbrev pub IsTallyOf : List ℕ → ℕ → Tally → Type 0
IsTallyOf text number tally = (cells : List BenchCell) × AreCellsOf text number cells × (tally ≡ tally_of cells)

-- the tally of that many generated cells
abbrev pub IsBenched : ℕ → Tally → Type 0
IsBenched number tally = (cells : List BenchCell) × AreBenchCells number cells × (tally ≡ tally_of cells)
