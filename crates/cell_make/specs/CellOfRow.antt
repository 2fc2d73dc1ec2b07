-- What making one cell of a row results in: its first least row drawn, or its lowest one, or why there is no drawing.
use Rattle.std.specs.Prelude.{ℕ, ◌≡◌, true, false, Bool, List}
use Rattle.bound_log.specs.declared.log.Log.{Log}
use Rattle.cell_draw.specs.Frame.{IsTooTall, needed_of}
use Rattle.cell_inputs.specs.Inputs.{Inputs}
use Rattle.cell_inputs.specs.Style.{plain_style}
use Rattle.cell_inputs.specs.declared.style.LeastRow.{LeastRow}
use Rattle.cell_inputs.specs.declared.style.LeastRow.TheVariants.{First, Lowest}
use Rattle.cell_make.specs.Low.{IsLowRouted}
use Rattle.cell_make.specs.LowRows.{HasFirstLeast}
use Rattle.cell_make.specs.LowTracks.{ProvesTracks}
use Rattle.cell_make.specs.LowUnwired.{IsUnwiredEnd}
use Rattle.cell_make.specs.Making.{IsDrawnAs, IsMade, Makes}
use Rattle.cell_make.specs.Making as making
use Rattle.cell_make.specs.Searched.{IsFound, IsUnfinished}
use Rattle.cell_make.specs.Style.{IsToldRing}
use Rattle.cell_make.specs.declared.row_outcome.Undrawn.{Undrawn}
use Rattle.cell_make.specs.declared.row_outcome.Undrawn.TheVariants as why
use Rattle.channel_route.specs.declared.ring.Ring.{Ring}
use Rattle.channel_route.specs.declared.routing.Routing.{Routing}
use Rattle.row_model.specs.declared.column.Column.{Column}
use Rattle.row_place.specs.Places.{placement_of}
use Rattle.track_log.specs.declared.certificate.TrackCertificate.{TrackCertificate}

-- ---- a drawing

-- The log is that of the first least row, and a certificate proves how many tracks each row takes at least, within its
-- gaps. The row is the lowest one, or where the search for that is open the first that can be wired with the fewest
-- gaps, and it is drawn.
pub record IsMadeLow (inputs : Inputs) (row : List Column) (log : Log) (routing : Routing) (xs : List ℕ)
    : Type 0 where
  pub first : List Column
  pub found : IsFound inputs first log
  pub tracks : TrackCertificate
  pub proves : ProvesTracks plain_style.wiring inputs tracks
  pub drawn : IsDrawnAs (IsLowRouted plain_style inputs row tracks routing) plain_style inputs row routing xs

-- its first least row, or its lowest one, drawn with straight trunks and no taps
abbrev pub IsMadeBy : LeastRow → Inputs → List Column → Log → Routing → List ℕ → Type 0
IsMadeBy First inputs row log routing xs = IsMade plain_style inputs row log routing xs
IsMadeBy Lowest inputs row log routing xs = IsMadeLow inputs row log routing xs

-- ---- why there is none

-- why a cell has no drawing: nets of its row are in a cycle, its height is not enough, or the budget is spent; or nets
-- of its first least row are in a cycle, and the search for a row that can be wired spent the budget
pub data StopAnswer : Type 0 where
  Cyclic : (row : List Column) (log : Log) (ring : Ring) → StopAnswer
  Tall : (row : List Column) (log : Log) (routing : Routing) → StopAnswer
  Unfinished : (proved : ℕ) (log : Log) → StopAnswer
  Unwired : (row : List Column) (log : Log) (tracks : TrackCertificate) (ring : Ring) → StopAnswer

-- the lowest row, or where the search for it is open the first that can be wired with the fewest gaps, needs more than
-- the height
pub record IsTallLow (inputs : Inputs) (row : List Column) (log : Log) (routing : Routing) : Type 0 where
  pub first : List Column
  pub found : IsFound inputs first log
  pub there : HasFirstLeast plain_style.wiring inputs
  pub tracks : TrackCertificate
  pub proves : ProvesTracks plain_style.wiring inputs tracks
  pub routed : IsLowRouted plain_style inputs row tracks routing
  pub tall : IsTooTall row routing.tracks inputs.tech.height

-- nets of the first least row are in this cycle, and no row can be wired, or the budget is spent
pub record IsRingedLow (inputs : Inputs) (row : List Column) (log : Log) (tracks : TrackCertificate)
    (none_wired : Bool) (ring : Ring) : Type 0 where
  pub found : IsFound inputs row log
  pub proves : ProvesTracks plain_style.wiring inputs tracks
  pub unwired : IsUnwiredEnd plain_style.wiring inputs tracks none_wired
  pub told : IsToldRing plain_style.wiring (placement_of row) inputs.cell.pins ring

-- With straight trunks and no taps the first least row has no drawing, as `make` has it; or the lowest one has none.
-- Then a cycle of the first one ends it, only where no row can be wired or the budget of the search for one is spent.
abbrev pub StopsBy : LeastRow → Inputs → StopAnswer → Type 0
StopsBy First inputs (Cyclic row log ring) = Makes plain_style inputs (making.Cyclic row log ring)
StopsBy First inputs (Tall row log routing) = Makes plain_style inputs (making.Tall row log routing)
StopsBy First inputs (Unfinished proved log) = Makes plain_style inputs (making.Unfinished proved log)
StopsBy First inputs (Unwired row log tracks ring) = ⊥
StopsBy Lowest inputs (Cyclic row log ring) =
    (tracks : TrackCertificate) × IsRingedLow inputs row log tracks true ring
StopsBy Lowest inputs (Tall row log routing) = IsTallLow inputs row log routing
StopsBy Lowest inputs (Unfinished proved log) = IsUnfinished inputs proved log
StopsBy Lowest inputs (Unwired row log tracks ring) = IsRingedLow inputs row log tracks false ring

-- why there is no drawing, as it is reported: the cycle, the heights needed and given, or the log of the search
abbrev pub TellsWhy : Inputs → Undrawn → StopAnswer → Type 0
TellsWhy inputs (why.Cyclic ring) answer = (row : List Column) × (log : Log) × (answer ≡ Cyclic row log ring)
TellsWhy inputs (why.Tall needed given) answer =
    (row : List Column) × (log : Log) × (routing : Routing) × (answer ≡ Tall row log routing)
    × (needed ≡ needed_of row routing.tracks) × (given ≡ inputs.tech.height)
TellsWhy inputs (why.Unfinished log proved) answer = answer ≡ Unfinished proved log
TellsWhy inputs (why.Unwired ring) answer =
    (row : List Column) × (log : Log) × (tracks : TrackCertificate) × (answer ≡ Unwired row log tracks ring)
