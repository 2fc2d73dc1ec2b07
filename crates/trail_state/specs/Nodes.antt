-- Which nodes the columns of a gate can have at their ends.
use Rattle.std.specs.Prelude.{ℕ, ◌*◌, ◌/◌, ◌%◌, Bool, ◌||◌, ◌&&◌, ◌==◌, if◌then◌else◌, ltb, List, length, map}
use Rattle.std.specs.List.{filter, list_any, range_with_len}
use Rattle.std.specs.Ordering.{nat_cmp}
use Rattle.std.specs.declared.cmp.Ordering.{Ordering}
use Rattle.cell_num.specs.declared.net.NetNo.{NetNo}
use Rattle.cell_num.specs.declared.finger.Finger.{Finger}
use Rattle.cell_num.specs.declared.finger.Fingers.{Fingers}
use Rattle.cell_num.specs.Fingers.{on_gate}
use Rattle.trail_state.specs.declared.edge.Node.{Node}
use Rattle.trail_state.specs.Places.{node_at}

abbrev pub has_net : ℕ → Finger → Bool
has_net net x = (x.lo.0 == net) || (x.hi.0 == net)

abbrev pub is_end_in : List Finger → ℕ → Bool
is_end_in mine net = list_any (has_net net) mine

-- A net at an end of a finger of the row: these are the nets that fill its empty places. A row of no finger has
-- net 0.
abbrev pub is_net_in : List Finger → ℕ → Bool
is_net_in mine net = if length mine == 0 then net == 0 else is_end_in mine net

abbrev pub is_net_on : List Finger → ℕ → ℕ → Bool
is_net_on mine gate net = list_any (λ (x : Finger). (x.gate.0 == gate) && has_net net x) mine

-- A net that the row's place of some column of the gate can have at an end. A row with fewer fingers on the gate
-- than the other has empty places there, which are filled.
abbrev pub may_have : List Finger → List Finger → ℕ → ℕ → Bool
may_have mine other gate net =
    if ltb (on_gate gate mine) (on_gate gate other) then is_net_in mine net else is_net_on mine gate net

abbrev pub can_meet : Fingers → ℕ → ℕ → Bool
can_meet f gate v = may_have f.p f.n gate (v / 256) && may_have f.n f.p gate (v % 256)

-- those nodes in ascending order
abbrev pub nodes_of : Fingers → ℕ → List Node
nodes_of f gate = map node_at (filter (can_meet f gate) (range_with_len 0 (256 * f.nets)))

-- some of the gates can
abbrev pub any_can_meet : Fingers → List NetNo → ℕ → Bool
any_can_meet f gates v = list_any (λ (g : NetNo). can_meet f g.0 v) gates

-- those nodes in ascending order
abbrev pub open_nodes : Fingers → List NetNo → List Node
open_nodes f gates = map node_at (filter (any_can_meet f gates) (range_with_len 0 (256 * f.nets)))

-- nodes by their numbers
abbrev pub node_cmp : Node → Node → Ordering
node_cmp a b = nat_cmp a.0 b.0
