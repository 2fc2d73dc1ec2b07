-- What is certain once a gate is done: ends at nodes that no later gate can meet, and classes without other nodes.
use Rattle.std.specs.Prelude.{ℕ, ◌+◌, ◌*◌, Bool, not, ◌||◌, ◌&&◌, ◌==◌, List, map, find, unwrap_or, option_map}
use Rattle.std.specs.Prelude.{count_by}
use Rattle.std.specs.List.{filter, list_any}
use Rattle.trail_state.specs.declared.edge.Node.{Node}
use Rattle.trail_state.specs.declared.edge.Edge.{Edge}
use Rattle.trail_state.specs.declared.state.Place.{Place}
use Rattle.trail_state.specs.Places.{with_edges}

-- a later gate can meet the node
abbrev pub is_open : List Node → ℕ → Bool
is_open nodes v = list_any (λ (w : Node). w.0 == v) nodes

abbrev pub has_class : List Place → ℕ → Bool
has_class places h = list_any (λ (p : Place). p.class.0 == h) places

abbrev pub has_odd : List Place → ℕ → Bool
has_odd places h = list_any (λ (p : Place). (p.class.0 == h) && p.odd) places

-- the places that stay, and those that no later gate can meet
abbrev pub kept_of : List Node → List Place → List Place
kept_of nodes places = filter (λ (p : Place). is_open nodes p.node.0) places

abbrev pub closing_of : List Node → List Place → List Place
closing_of nodes places = filter (λ (p : Place). not (is_open nodes p.node.0)) places

-- the place names a class of which no place stays and that has no end: a trail through it ends where it begins
abbrev pub is_closed_trail : List Place → List Place → Place → Bool
is_closed_trail kept closing p =
    (p.node.0 == p.class.0) && not p.flagged && not (has_class kept p.class.0) && not (has_odd closing p.class.0)

-- each odd node that closes is an end, and each closed trail has two
abbrev pub ends_settled : List Place → List Place → ℕ
ends_settled kept closing =
    count_by (λ (p : Place). p.odd) closing + 2 * count_by (is_closed_trail kept closing) closing

-- the first place of the class that stays names it
abbrev pub name_in : List Place → Place → Node
name_in kept p =
    unwrap_or (option_map (λ (q : Place). q.node) (find (λ (q : Place). q.class.0 == p.class.0) kept)) p.class

abbrev pub left_place : List Place → List Place → Place → Place
left_place kept closing p = record {
  node = p.node;
  class = name_in kept p;
  odd = p.odd;
  flagged = p.flagged || has_odd closing p.class.0;
}

abbrev pub places_left : List Place → List Place → List Place
places_left kept closing = map (left_place kept closing) kept

-- the state after a choice, where `next` are the nodes that later gates can meet
abbrev pub state_settled : List Node → List Place → List Place
state_settled next places = places_left (kept_of next places) (closing_of next places)

abbrev pub ends_of : List Node → List Place → ℕ
ends_of next places = ends_settled (kept_of next places) (closing_of next places)

abbrev pub state_after : List Node → List Node → List Place → List Edge → List Place
state_after nodes next state choice = state_settled next (with_edges nodes state choice)

abbrev pub ends_after : List Node → List Node → List Place → List Edge → ℕ
ends_after nodes next state choice = ends_of next (with_edges nodes state choice)
