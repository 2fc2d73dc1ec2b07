-- The steps in which cells of a row are made.
use Rattle.std.specs.Prelude.{ℕ, ◌≡◌, ◌<◌, Bool, true, false, List, length, All, Option, Some, None, bytes_eq}
use Rattle.cell_draw.specs.declared.cell.TheConstants.{MOST_SHAPES}
use Rattle.cell_inputs.specs.Inputs.{AreInputs, Inputs, unit_nm}
use Rattle.cell_inputs.specs.Style.{plain_style}
use Rattle.cell_inputs.specs.declared.style.LeastRow.{LeastRow}
use Rattle.bound_log.specs.declared.log.Log.{Log}
use Rattle.cell_make.specs.Extent.{HasExtent}
use Rattle.cell_make.specs.Low.{IsLowRouted}
use Rattle.cell_make.specs.LowTracks.{ProvesTracks}
use Rattle.cell_make.specs.LowUnwired.{IsUnwiredEnd}
use Rattle.cell_make.specs.Rows.{ComesAs}
use Rattle.cell_make.specs.Searched.{IsFound}
use Rattle.channel_route.specs.declared.ring.Ring.{Ring}
use Rattle.finger_fold.specs.declared.folding.FoldFault.{FoldFault}
use Rattle.finger_fold.specs.declared.folding.FoldFault.TheVariants as fold
use Rattle.gds_read.specs.RoundTrip.{IsReadable}
use Rattle.row_abut.specs.declared.cell.RowCell.{RowCell}
use Rattle.cell_make.specs.RowInputs.{RowInputs}
use Rattle.cell_make.specs.CellOfRow.{IsMadeBy, StopAnswer, StopsBy, TellsWhy}
use Rattle.cell_make.specs.Rowed.{AreInputsOf, AreMade, IsInputFault, IsMadeCell, IsRefused, IsStopped, MadeCell}
use Rattle.cell_make.specs.Rowed.{cell_drawing, cell_frame, cell_name, row_cell, row_cells}
use Rattle.cell_make.specs.declared.draw_outcome.DrawOutcome.{DrawOutcome}
use Rattle.cell_make.specs.declared.draw_outcome.DrawOutcome.TheVariants as came
use Rattle.cell_make.specs.declared.low_drawn.LowDrawn.{LowDrawn}
use Rattle.cell_make.specs.declared.row_outcome.Undrawn.{Undrawn}
use Rattle.cell_make.specs.declared.row_outcome.Undrawn.TheVariants as why
use Rattle.cell_make.specs.declared.row_outcome.InputFault.TheVariants.{Spice, Fold}
use Rattle.cell_make.specs.declared.row_stop.RowStop.{RowStop}
use Rattle.cell_make.specs.declared.row_stop.RowStop.TheVariants.{Refused, Stopped, NoMemory}
use Rattle.row_model.specs.declared.column.Column.{Column}
use Rattle.spice_net.specs.declared.fault.SpiceFault.{SpiceFault}
use Rattle.spice_net.specs.declared.fault.SpiceFault.TheVariants as spice
use Rattle.track_log.specs.declared.certificate.TrackCertificate.{TrackCertificate}

abbrev pub spice_stop : SpiceFault → RowStop
spice_stop spice.NoMemory = NoMemory
spice_stop f = Refused (Spice f)

abbrev pub fold_stop : FoldFault → RowStop
fold_stop fold.NoMemory = NoMemory
fold_stop f = Refused (Fold f)

-- what holds of a made cell besides: its inputs are sound, its drawing keeps to its frame and can be written
pub record IsSoundCell (m : MadeCell) : Type 0 where
  pub inputs : AreInputs m.inputs
  pub extent : HasExtent (cell_frame m) m.lines (cell_drawing m)
  pub readable : IsReadable (cell_name m) (cell_drawing m).shapes (unit_nm m.inputs.tech)
  pub few : length (cell_drawing m).shapes.rects < MOST_SHAPES

-- ---- one cell, by its inputs

-- where a cycle ends it, the row is the first least one, and no row can be wired, or the budget is spent
abbrev pub IsRingEnd : Inputs → (first row : List Column) → TrackCertificate → (none_wired : Bool) → DrawOutcome
    → Type 0
IsRingEnd inputs first row tracks none_wired (came.Drawn placement routing drawn) = Unit {0}
IsRingEnd inputs first row tracks none_wired (came.Cyclic placement ring) =
    (row ≡ first) × IsUnwiredEnd plain_style.wiring inputs tracks none_wired
IsRingEnd inputs first row tracks none_wired (came.Tall placement routing needed given) = Unit {0}

-- what drawing the lowest row results in, or where the search for it is open the first that can be wired with the
-- fewest gaps; or a cycle of the first least row
pub record IsLowDrawn (inputs : Inputs) (first : List Column) (low : LowDrawn) : Type 0 where
  pub row : List Column
  pub tracks : TrackCertificate
  pub proves : ProvesTracks plain_style.wiring inputs tracks
  pub comes : ComesAs (IsLowRouted plain_style inputs row tracks) plain_style inputs row low.came
  pub ring : IsRingEnd inputs first row tracks low.none_wired low.came

-- so it is of the first least row that a search found
abbrev pub IsFoundLow : Inputs → LowDrawn → Type 0
IsFoundLow inputs low = (first : List Column) × (log : Log) × IsFound inputs first log × IsLowDrawn inputs first low

-- why such a cycle ends it
abbrev pub ringed : Ring → (none_wired : Bool) → Undrawn
ringed ring true = why.Cyclic ring
ringed ring false = why.Unwired ring

-- the cell that is made of these inputs, with this choice of its row
pub record IsCellBy (choice : LeastRow) (inputs : Inputs) (c : RowCell) : Type 0 where
  pub m : MadeCell
  pub of : m.inputs ≡ inputs
  pub is : IsMadeBy choice m.inputs m.row m.log m.routing m.lines
  pub sound : IsSoundCell m
  pub cell : c ≡ row_cell m

-- why it is not made, unless memory ran out
abbrev pub IsStopBy : LeastRow → Inputs → RowStop → Type 0
IsStopBy choice inputs (Refused f) = ⊥
IsStopBy choice inputs (Stopped kept why) =
    (kept ≡ inputs) × ((answer : StopAnswer) × StopsBy choice inputs answer × TellsWhy inputs why answer)
IsStopBy choice inputs NoMemory = Unit {0}

-- ---- the cells of a row, by their names

-- the made cell of this name
pub record IsCellOf (r : RowInputs) (name : List ℕ) (c : RowCell) : Type 0 where
  pub m : MadeCell
  pub is : IsMadeCell r m
  pub sound : IsSoundCell m
  pub named : cell_name m ≡ name
  pub cell : c ≡ row_cell m

abbrev pub has_name : List ℕ → RowCell → Bool
has_name name c = bytes_eq c.name name

-- the cell of that name that was found, or a new one
abbrev pub IsNextCell : RowInputs → List ℕ → Option RowCell → RowCell → Type 0
IsNextCell r name (Some old) c = c ≡ old
IsNextCell r name None c = IsCellOf r name c

-- the made cells of these names
pub record AreCellsOf (r : RowInputs) (names : List (List ℕ)) (cells : List RowCell) : Type 0 where
  pub made : List MadeCell
  pub are : AreMade r names made
  pub sound : All IsSoundCell made
  pub shown : cells ≡ row_cells made

-- why the cell of this name is not made, unless memory ran out
abbrev pub IsStop : RowInputs → List ℕ → RowStop → Type 0
IsStop r name (Refused f) = IsInputFault r name f
IsStop r name (Stopped inputs why) =
    AreInputsOf r inputs × (inputs.cell.name ≡ name) × ((answer : StopAnswer)
    × StopsBy r.choice inputs answer × TellsWhy inputs why answer)
IsStop r name NoMemory = Unit {0}

-- why not all cells are made
abbrev pub Stops : RowInputs → RowStop → Type 0
Stops r (Refused f) = (before : List MadeCell) × (name : List ℕ) × IsRefused r before name f
Stops r (Stopped inputs why) =
    (before : List MadeCell) × (answer : StopAnswer) × IsStopped r before inputs answer × TellsWhy inputs why answer
Stops r NoMemory = Unit {0}
