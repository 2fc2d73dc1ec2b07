-- The places that the edges so far meet: the classes that edges chain, and the nodes that an odd number of ends meet.
use Rattle.std.specs.Prelude.{ℕ, Bool, true, false, not, ◌||◌, ◌==◌, if◌then◌else◌, min, List, Option, Some, None, map}
use Rattle.std.specs.Prelude.{find, fold, unwrap_or}
use Rattle.std.specs.List.{filter_map, list_any}
use Rattle.trail_state.specs.declared.edge.Node.{Node}
use Rattle.trail_state.specs.declared.edge.Edge.{Edge}
use Rattle.trail_state.specs.declared.state.Place.{Place}

abbrev pub node_at : ℕ → Node
node_at v = record { 0 = v }

abbrev pub is_end : ℕ → Edge → Bool
is_end v e = (e.a.0 == v) || (e.b.0 == v)

abbrev pub is_met : List Edge → ℕ → Bool
is_met edges v = list_any (is_end v) edges

-- a node of which no edge is known yet
abbrev pub new_place : ℕ → Place
new_place v = record { node = node_at v; class = node_at v; odd = false; flagged = false }

abbrev pub place_of : List Place → ℕ → Option Place
place_of places v = find (λ p. p.node.0 == v) places

abbrev pub place_or_new : List Place → ℕ → Place
place_or_new places v = unwrap_or (place_of places v) (new_place v)

abbrev pub or_met : Option Place → Bool → ℕ → Option Place
or_met (Some p) met v = Some p
or_met None met v = if met then Some (new_place v) else None

-- the node's place, a new one where the edges are the first to meet it
abbrev pub met_place : List Place → List Edge → ℕ → Option Place
met_place places edges v = or_met (place_of places v) (is_met edges v) v

abbrev pub met_places : List Node → List Place → List Edge → List Place
met_places nodes places edges = filter_map (λ (v : Node). met_place places edges v.0) nodes

-- the place is of the class of one of the two
abbrev pub is_joined : Place → Place → Place → Bool
is_joined a b p = (p.class.0 == a.class.0) || (p.class.0 == b.class.0)

abbrev pub differ : Bool → Bool → Bool
differ true b = not b
differ false b = b

-- an edge from a to b makes one class of theirs, and meets both again
abbrev pub joined_place : Place → Place → Place → Place
joined_place a b p = record {
  node = p.node;
  class = if is_joined a b p then node_at (min a.class.0 b.class.0) else p.class;
  odd = differ p.odd (differ (p.node.0 == a.node.0) (p.node.0 == b.node.0));
  flagged = if is_joined a b p then a.flagged || b.flagged else p.flagged;
}

abbrev pub with_edge : List Place → Edge → List Place
with_edge places e = map (joined_place (place_or_new places e.a.0) (place_or_new places e.b.0)) places

-- the open nodes that the state or the edges meet, with the edges
abbrev pub with_edges : List Node → List Place → List Edge → List Place
with_edges nodes places edges = fold with_edge (met_places nodes places edges) edges
