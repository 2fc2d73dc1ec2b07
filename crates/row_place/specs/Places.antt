-- The places of nets on the lines: node places at the ends of fingers, gate places at the gates of columns.
use Rattle.std.specs.Prelude.{ℕ, ◌≡◌, ◌+◌, ◌*◌, ◌<◌, ◌≤◌, ◌⊎◌, ◌↔◌, List, Some}
use Rattle.std.specs.Prelude.{slice_get, length, All, AllPairs, Contains}
use Rattle.cell_num.specs.declared.finger.Row.{Row}
use Rattle.cell_num.specs.declared.finger.Row.TheVariants.{P, N}
use Rattle.row_model.specs.declared.column.Placed.{Placed}
use Rattle.row_model.specs.declared.column.Column.{Column}
use Rattle.row_model.specs.Arrangement.{place, IsColumn}
use Rattle.row_model.specs.Gaps.{left_net, right_net}
use Rattle.row_place.specs.declared.placement.NodePlace.{NodePlace}
use Rattle.row_place.specs.declared.placement.GatePlace.{GatePlace}
use Rattle.row_place.specs.declared.placement.Placement.{Placement}
use Rattle.row_place.specs.Units.{units_of, unit_of, seats_of}
use Rattle.row_place.specs.Steps.{nodes_below, gates_of}

-- in a row of the cell some finger has an end of this net at this node line
pub record IsNode (row : List Column) (node : NodePlace) : Type 0 where
  pub at : ℕ
  pub column : Column
  pub finger : Placed
  pub stands : slice_get row at ≡ Some column
  pub filled : place node.row column ≡ Some finger
  pub end :
      ((node.line ≡ 2 * unit_of row at) × (node.net ≡ left_net finger))
      ⊎ ((node.line ≡ 2 * unit_of row at + 2) × (node.net ≡ right_net finger))

-- some column has a finger on this net, and this gate line
pub record IsGate (row : List Column) (gate : GatePlace) : Type 0 where
  pub at : ℕ
  pub column : Column
  pub side : Row
  pub finger : Placed
  pub stands : slice_get row at ≡ Some column
  pub filled : place side column ≡ Some finger
  pub line : gate.line ≡ 2 * unit_of row at + 1
  pub net : gate.net ≡ finger.finger.gate

-- in order of line, N before P
abbrev pub StandsBefore : NodePlace → NodePlace → Type 0
StandsBefore a b = (a.line < b.line) ⊎ ((a.line ≡ b.line) × (a.row ≡ N) × (b.row ≡ P))

-- The units and the places of a row of at most 32 columns: exactly its places, each once, in order.
pub record IsPlacement (placement : Placement) : Type 0 where
  pub columns : All IsColumn placement.row
  pub few : length placement.row ≤ 32
  pub units : placement.units ≡ units_of placement.row
  pub nodes : (node : NodePlace) → Contains placement.nodes node ↔ IsNode placement.row node
  pub node_order : AllPairs StandsBefore placement.nodes
  pub gates : (gate : GatePlace) → Contains placement.gates gate ↔ IsGate placement.row gate
  pub gate_order : AllPairs (λ a b. a.line < b.line) placement.gates

-- the units and the places of a row, as a value
abbrev pub placement_of : List Column → Placement
placement_of row = record {
  row = row;
  units = units_of row;
  nodes = nodes_below (seats_of row) (length (units_of row) + 1);
  gates = gates_of (seats_of row);
}
