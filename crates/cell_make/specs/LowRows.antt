-- The rows of a cell that can be wired, by either wiring, and among them those with the fewest gaps.
use Rattle.std.specs.Prelude.{ℕ, ◌≡◌, ◌≤◌, ◌⊎◌, List}
use Rattle.cell_num.specs.declared.finger.Fingers.{Fingers}
use Rattle.row_model.specs.declared.column.Column.{Column}
use Rattle.row_model.specs.Arrangement.{IsArrangement}
use Rattle.row_model.specs.Gaps.{gaps_of}
use Rattle.row_state.specs.Order.{RowBefore}
use Rattle.row_search.specs.First.{IsFirstLeast}
use Rattle.row_place.specs.Places.{placement_of}
use Rattle.row_place.specs.Trunks.{HasPins}
use Rattle.channel_route.specs.declared.ring.Ring.{Ring}
use Rattle.channel_route.specs.declared.routing.Routing.{Routing}
use Rattle.cell_inputs.specs.declared.style.Wiring.{Wiring}
use Rattle.cell_inputs.specs.Inputs.{Inputs}
use Rattle.cell_make.specs.Style.{AreLegal, AreTight, HasNoRing, IsRing, IsToldRing}

-- an arrangement of the fingers, and no other has fewer gaps
pub record IsLeast (f : Fingers) (row : List Column) : Type 0 where
  pub arranges : IsArrangement row f
  pub least : (other : List Column) → IsArrangement other f → gaps_of row ≤ gaps_of other

-- it has a legal routing
abbrev pub IsWired : Wiring → Inputs → List Column → Type 0
IsWired wiring inputs row = (r : Routing) × AreLegal wiring (placement_of row) inputs.cell.pins r

-- an arrangement of the fingers that can be wired, and no other that can has fewer gaps
pub record IsLeastWired (wiring : Wiring) (inputs : Inputs) (row : List Column) : Type 0 where
  pub arranges : IsArrangement row inputs.fingers
  pub wired : IsWired wiring inputs row
  pub least : (other : List Column) → IsArrangement other inputs.fingers → IsWired wiring inputs other
      → gaps_of row ≤ gaps_of other

-- it precedes all others
pub record IsFirstLeastWired (wiring : Wiring) (inputs : Inputs) (row : List Column) : Type 0 where
  pub least : IsLeastWired wiring inputs row
  pub first : (other : List Column) → IsLeastWired wiring inputs other → (row ≡ other) ⊎ RowBefore row other

-- no arrangement can be wired
abbrev pub NoneIsWired : Wiring → Inputs → Type 0
NoneIsWired wiring inputs = (row : List Column) → IsArrangement row inputs.fingers → IsWired wiring inputs row → ⊥

-- none with at most that many gaps can
abbrev pub NoneIsWiredWithin : Wiring → Inputs → (gaps : ℕ) → Type 0
NoneIsWiredWithin wiring inputs gaps =
    (row : List Column) → IsArrangement row inputs.fingers → gaps_of row ≤ gaps → IsWired wiring inputs row → ⊥

-- without a ring it has a legal and tight routing
abbrev pub CanBeRouted : Wiring → Inputs → List Column → Type 0
CanBeRouted wiring inputs row =
    HasNoRing wiring (placement_of row) inputs.cell.pins
    → (r : Routing) × AreLegal wiring (placement_of row) inputs.cell.pins r
    × AreTight wiring (placement_of row) inputs.cell.pins r

-- there is a first least row, each pin other than the rails has a place in it, and without a ring it can be routed
pub record HasFirstLeast (wiring : Wiring) (inputs : Inputs) : Type 0 where
  pub row : List Column
  pub first : IsFirstLeast inputs.fingers row
  pub pins : HasPins (placement_of row) inputs.cell.pins
  pub routed : CanBeRouted wiring inputs row

-- nets of the row, or pieces of them, are above each other in this cycle
pub record IsRinged (wiring : Wiring) (inputs : Inputs) (row : List Column) (ring : Ring) : Type 0 where
  pub cyclic : HasNoRing wiring (placement_of row) inputs.cell.pins → ⊥
  pub is : IsRing wiring (placement_of row) inputs.cell.pins ring
  pub told : IsToldRing wiring (placement_of row) inputs.cell.pins ring
