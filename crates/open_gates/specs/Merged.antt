-- Nodes, edges and choices where all nodes with one of some nets in a row are merged.
use Rattle.std.specs.Prelude.{ℕ, ◌/◌, ◌%◌, ◌==◌, Bool, if◌then◌else◌, List, [], ◌∷◌, ◌++◌, fold, map}
use Rattle.std.specs.Cmp.Lexicographic.{pointwise}
use Rattle.std.specs.List.{filter, list_any, range_with_len}
use Rattle.cell_num.specs.declared.finger.Row.{Row}
use Rattle.cell_num.specs.declared.finger.Row.TheVariants.{P, N}
use Rattle.trail_state.specs.declared.edge.Node.{Node}
use Rattle.trail_state.specs.declared.edge.Edge.{Edge}
use Rattle.trail_state.specs.Edges.{edge_between, pair_node}
use Rattle.trail_state.specs.Fronts.{same_edge}
use Rattle.trail_state.specs.Places.{node_at}
use Rattle.trail_state.specs.Sorted.{inserted}

-- the node's net in the row
abbrev pub net_in : Row → ℕ → ℕ
net_in P v = v / 256
net_in N v = v % 256

-- the number of all nodes that have the net in the row, merged: that of the node with net 0 in the other row
abbrev pub node_of : Row → ℕ → ℕ
node_of P net = pair_node net 0
node_of N net = pair_node 0 net

-- the edges in ascending order
abbrev pub in_order : List Edge → List Edge
in_order edges = fold (λ sorted e. inserted e sorted) [] edges

abbrev pub same_choice : List Edge → List Edge → Bool
same_choice c d = pointwise same_edge c d

abbrev pub with_choice : List (List Edge) → List Edge → List (List Edge)
with_choice choices c = if list_any (same_choice c) choices then choices else choices ++ c ∷ []

abbrev pub each_once : List (List Edge) → List (List Edge)
each_once choices = fold with_choice [] choices

-- nets of a row: nodes with one of them are merged
module _ (row : Row) (nets : ℕ → Bool) where
  abbrev pub merged : ℕ → ℕ
  merged v = if nets (net_in row v) then node_of row (net_in row v) else v

  abbrev pub merged_edge : Edge → Edge
  merged_edge e = edge_between (merged e.a.0) (merged e.b.0)

  abbrev pub merged_choice : List Edge → List Edge
  merged_choice choice = in_order (map merged_edge choice)

  -- each once
  abbrev pub merged_choices : List (List Edge) → List (List Edge)
  merged_choices choices = each_once (map merged_choice choices)

  abbrev pub is_merged_from : List Node → ℕ → Bool
  is_merged_from nodes v = list_any (λ (w : Node). merged w.0 == v) nodes

  -- those below n in ascending order, each once
  abbrev pub merged_nodes : ℕ → List Node → List Node
  merged_nodes n nodes = map node_at (filter (is_merged_from nodes) (range_with_len 0 n))
