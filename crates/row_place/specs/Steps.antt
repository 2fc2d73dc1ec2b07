-- The places of a row, computed unit by unit.
use Rattle.std.specs.Prelude.{ℕ, zero, suc, ◌+◌, ◌*◌, ◌==◌, if◌then◌else◌, List, [], ◌∷◌, ◌++◌}
use Rattle.std.specs.Prelude.{Option, Some, None, option_map, option_to_list, filter_map}
use Rattle.cell_num.specs.declared.net.NetNo.{NetNo}
use Rattle.cell_num.specs.declared.finger.Row.{Row}
use Rattle.cell_num.specs.declared.finger.Row.TheVariants.{P, N}
use Rattle.row_model.specs.declared.column.Placed.{Placed}
use Rattle.row_model.specs.Arrangement.{gate_in, place}
use Rattle.row_model.specs.Gaps.{left_net, right_net}
use Rattle.row_place.specs.declared.placement.NodePlace.{NodePlace}
use Rattle.row_place.specs.declared.placement.GatePlace.{GatePlace}
use Rattle.row_place.specs.declared.placement.Seat.{Seat}

-- the net of the end that a finger of a unit has at a line
abbrev pub end_at : ℕ → ℕ → Option Placed → Option NetNo
end_at line unit None = None
end_at line unit (Some x) =
    if line == 2 * unit then Some (left_net x) else if line == 2 * unit + 2 then Some (right_net x) else None

abbrev pub or_else : Option NetNo → Option NetNo → Option NetNo
or_else None other = other
or_else (Some net) other = Some net

-- the first of the ends that meet at a line in a row
abbrev pub first_net : Row → ℕ → List Seat → Option NetNo
first_net row line [] = None
first_net row line (seat ∷ seats) = or_else (end_at line seat.unit (place row seat.column)) (first_net row line seats)

abbrev pub node_at : Row → ℕ → List Seat → List NodePlace
node_at row line seats =
    option_to_list (option_map (λ net. let node : NodePlace = record { row = row; line = line; net = net } in node)
    (first_net row line seats))

-- the node places at the first node lines
abbrev pub nodes_below : List Seat → ℕ → List NodePlace
nodes_below seats zero = []
nodes_below seats (suc n) = (nodes_below seats n ++ node_at N (2 * n) seats) ++ node_at P (2 * n) seats

-- the place of the gate of a column
abbrev pub gate_of : Seat → Option GatePlace
gate_of seat =
    option_map (λ net. let gate : GatePlace = record { line = 2 * seat.unit + 1; net = net } in gate)
    (gate_in seat.column.p seat.column.n)

abbrev pub gates_of : List Seat → List GatePlace
gates_of seats = filter_map gate_of seats
