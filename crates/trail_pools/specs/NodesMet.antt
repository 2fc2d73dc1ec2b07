-- What inner contracts of the lists of nodes cite.
use Rattle.std.specs.Prelude.{ℕ, ◌+◌, ◌*◌, ◌==◌, ◌&&◌, ◌||◌, Bool, not, List, map}
use Rattle.std.specs.List.{filter, list_any, range_with_len}
use Rattle.cell_num.specs.declared.net.NetNo.{NetNo}
use Rattle.cell_num.specs.declared.finger.Row.{Row}
use Rattle.cell_num.specs.declared.finger.Fingers.{Fingers}
use Rattle.trail_state.specs.declared.edge.Node.{Node}
use Rattle.trail_state.specs.Nodes.{is_net_on}
use Rattle.trail_state.specs.Places.{node_at}
use Rattle.open_gates.specs.declared.gates.OpenGates.{OpenGates}
use Rattle.open_gates.specs.Merged.{net_in}
use Rattle.open_gates.specs.Open.{fingers_beside, is_left_open}
use Rattle.trail_pools.specs.declared.pools.Pools.{Pools}
use Rattle.trail_pools.specs.Leveled.{has_pool}
use Rattle.trail_pools.specs.Meeting.{any_ends_free, any_meets, meets_node, net_beside}

-- full columns of the gate can have the node's net there, or half columns are filled
abbrev pub is_full_at : Fingers → Row → ℕ → Bool → Node → Bool
is_full_at f r gate stays v = not stays || is_net_on (fingers_beside r f) gate (net_beside r v.0)

-- in ascending order
abbrev pub nodes_meeting : Fingers → OpenGates → ℕ → List Node
nodes_meeting f opened gate =
    map node_at (filter (meets_node f opened.row (is_left_open opened) gate) (range_with_len 0 (256 * f.nets)))

abbrev pub nodes_met : Fingers → OpenGates → List NetNo → List Node
nodes_met f opened gates =
    map node_at (filter (any_meets f opened.row (is_left_open opened) gates) (range_with_len 0 (256 * f.nets)))

-- one of the nodes has the net in the row
abbrev pub is_net_met : Row → List Node → ℕ → Bool
is_net_met r met net = list_any (λ (w : Node). net_in r w.0 == net) met

-- a pool of which one of the nodes is met, or at whose net one of the gates can end free
abbrev pub is_pool_met : Fingers → OpenGates → Pools → List Node → List NetNo → ℕ → Bool
is_pool_met f opened pools met gates net =
    has_pool pools net
    && (is_net_met pools.row met net || any_ends_free f opened.row (is_left_open opened) gates net)

-- those pools, as places
abbrev pub pool_places : ℕ → List ℕ → List Node
pool_places n nets = map (λ net. node_at (n + net)) nets
