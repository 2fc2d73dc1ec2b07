-- The nodes that no gate after the next one can meet, and how many of them are ends of trails after a choice of that
-- gate.
use Rattle.std.specs.Prelude.{ℕ, ◌==◌, Bool, false, not, List, map, fold, count_by, option_map, unwrap_or}
use Rattle.std.specs.List.{filter}
use Rattle.trail_state.specs.declared.edge.Edge.{Edge}
use Rattle.trail_state.specs.declared.edge.Node.{Node}
use Rattle.trail_state.specs.declared.state.Place.{Place}
use Rattle.trail_state.specs.declared.level.Level.{Level}
use Rattle.trail_state.specs.Places.{differ, place_of}
use Rattle.trail_state.specs.Settling.{is_open}
use Rattle.trail_check.specs.declared.closing.ClosingNode.{ClosingNode}

abbrev pub is_odd_at : List Place → ℕ → Bool
is_odd_at places v = unwrap_or (option_map (λ (p : Place). p.odd) (place_of places v)) false

abbrev pub closing_at : List Place → Node → ClosingNode
closing_at places v = record { node = v; odd = is_odd_at places v.0 }

-- those that the level's gate can meet
abbrev pub closing_nodes : Level → List Place → List ClosingNode
closing_nodes level places = map (closing_at places) (filter (λ (v : Node). not (is_open level.next v.0)) level.now)

-- the edge has no end, one or two at the node
abbrev pub turned : ℕ → Bool → Edge → Bool
turned v odd e = differ odd (differ (v == e.a.0) (v == e.b.0))

abbrev pub is_odd_after : List Edge → ClosingNode → Bool
is_odd_after edges c = fold (turned c.node.0) c.odd edges

-- each of the nodes that is odd then is an end
abbrev pub odd_ends : List ClosingNode → List Edge → ℕ
odd_ends closing edges = count_by (is_odd_after edges) closing
