-- Why a row is not drawn at a given height.
use Rattle.std.specs.Prelude.{ℕ, ◌≡◌, List, Result, Err}
use Rattle.row_model.specs.declared.column.Column.{Column}
use Rattle.cell_draw.specs.declared.drawing.DrawFault.{DrawFault}
use Rattle.cell_draw.specs.declared.drawing.DrawFault.TheVariants.{TooTall, NoMemory}
use Rattle.cell_draw.specs.Frame.{needed_of, IsTooTall}

abbrev pub too_tall : List Column → ℕ → ℕ → DrawFault
too_tall row tracks height = TooTall (needed_of row tracks) height

-- the cell is too tall, and the fault says both heights; or memory was wanting
abbrev pub IsCause : List Column → ℕ → ℕ → DrawFault → Type 0
IsCause row tracks height (TooTall needed given) =
    IsTooTall row tracks height × (TooTall needed given ≡ too_tall row tracks height)
IsCause row tracks height NoMemory = Unit {0}

-- where the cell is too tall, the answer says so
abbrev pub SaysTooTall : {X : Type 0} → List Column → ℕ → ℕ → Result X DrawFault → Type 0
SaysTooTall row tracks height answer = IsTooTall row tracks height → answer ≡ Err (too_tall row tracks height)
