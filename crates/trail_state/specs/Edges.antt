-- The edges of the columns that hold some fingers, by the nets at their ends, turned alike or not.
use Rattle.std.specs.Prelude.{ℕ, ◌+◌, ◌*◌, if◌then◌else◌, leb, List, [], ◌∷◌, map}
use Rattle.std.specs.List.{flat_map}
use Rattle.trail_state.specs.declared.edge.Edge.{Edge}
use Rattle.trail_state.specs.declared.edge.FingerEnds.{FingerEnds}
use Rattle.trail_state.specs.Places.{node_at}

-- the number of a P net and an N net
abbrev pub pair_node : ℕ → ℕ → ℕ
pair_node p n = 256 * p + n

-- the edge between two nodes, whichever of them is on the left
abbrev pub edge_between : ℕ → ℕ → Edge
edge_between l r = if leb l r then record { a = node_at l; b = node_at r } else record { a = node_at r; b = node_at l }

-- a column whose left end has these two nets, and whose right end those
abbrev pub edge_of : ℕ → ℕ → ℕ → ℕ → Edge
edge_of p_left n_left p_right n_right = edge_between (pair_node p_left n_left) (pair_node p_right n_right)

-- the two edges of a P and an N finger in one column: turned alike, or not
abbrev pub pair_edges : FingerEnds → FingerEnds → List Edge
pair_edges x y = edge_of x.lo y.lo x.hi y.hi ∷ edge_of x.lo y.hi x.hi y.lo ∷ []

-- a P finger that is alone, its empty place filled with each two of the nets
abbrev pub p_edges : List ℕ → FingerEnds → List Edge
p_edges nets x = flat_map (λ l. map (λ r. edge_of x.lo l x.hi r) nets) nets

-- an N finger that is alone
abbrev pub n_edges : List ℕ → FingerEnds → List Edge
n_edges nets y = flat_map (λ l. map (λ r. edge_of l y.lo r y.hi) nets) nets
