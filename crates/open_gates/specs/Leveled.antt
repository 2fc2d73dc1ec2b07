-- The levels of an order: these alone are its levels. Gates may be left open.
use Rattle.std.specs.Prelude.{ℕ, ◌*◌, ◌==◌, if◌then◌else◌, List, [], ◌∷◌, length, map}
use Rattle.std.specs.List.{filter}
use Rattle.cell_num.specs.declared.net.NetNo.{NetNo}
use Rattle.cell_num.specs.declared.finger.Row.{Row}
use Rattle.cell_num.specs.declared.finger.Finger.{Finger}
use Rattle.cell_num.specs.declared.finger.Fingers.{Fingers}
use Rattle.trail_state.specs.declared.edge.Node.{Node}
use Rattle.trail_state.specs.declared.edge.Edge.{Edge}
use Rattle.trail_state.specs.declared.level.Level.{Level}
use Rattle.trail_state.specs.Choices.{is_on}
use Rattle.trail_state.specs.Edges.{edge_between}
use Rattle.trail_state.specs.Nodes.{open_nodes}
use Rattle.trail_state.specs.Pairings.{choices_of}
use Rattle.open_gates.specs.declared.gates.OpenGates.{OpenGates}
use Rattle.open_gates.specs.Merged.{in_order, merged_choices, merged_nodes, node_of}
use Rattle.open_gates.specs.Open.{fingers_at, is_left_open, is_merged_net}

abbrev pub level_of : Fingers → NetNo → List NetNo → Level
level_of f gate later = record {
  now = open_nodes f (gate ∷ later);
  next = open_nodes f later;
  choices = choices_of f gate.0;
}

-- where each gate with half columns is filled
unfoldable pub levels_of : Fingers → List NetNo → List Level
levels_of f [] = []
levels_of f (gate ∷ later) = level_of f gate later ∷ levels_of f later

-- A finger of a gate that is left open is one edge, whatever stands beside it: the nodes at its ends are merged.
abbrev pub open_edge : Row → Finger → Edge
open_edge row x = edge_between (node_of row x.lo.0) (node_of row x.hi.0)

-- so these edges are the one choice of the gate
abbrev pub open_choice : Row → Fingers → ℕ → List Edge
open_choice row f gate = in_order (map (open_edge row) (filter (is_on gate) (fingers_at row f)))

abbrev pub choices_in : Fingers → OpenGates → ℕ → List (List Edge)
choices_in f opened gate =
    if is_left_open opened gate then open_choice opened.row f gate ∷ []
    else merged_choices opened.row (is_merged_net f opened) (choices_of f gate)

-- the nodes that columns of some of the gates can have at their ends, merged
abbrev pub nodes_in : Fingers → OpenGates → List NetNo → List Node
nodes_in f opened gates = merged_nodes opened.row (is_merged_net f opened) (256 * f.nets) (open_nodes f gates)

abbrev pub level_in : Fingers → OpenGates → NetNo → List NetNo → Level
level_in f opened gate later = record {
  now = nodes_in f opened (gate ∷ later);
  next = nodes_in f opened later;
  choices = choices_in f opened gate.0;
}

unfoldable pub merged_levels : Fingers → OpenGates → List NetNo → List Level
merged_levels f opened [] = []
merged_levels f opened (gate ∷ later) = level_in f opened gate later ∷ merged_levels f opened later

-- The levels of an order where these gates are left open, and each other gate with half columns is filled. With none
-- left open nothing is merged.
abbrev pub levels_in : Fingers → OpenGates → List NetNo → List Level
levels_in f opened order = if length opened.gates == 0 then levels_of f order else merged_levels f opened order
