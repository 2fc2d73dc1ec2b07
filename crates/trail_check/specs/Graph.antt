-- The graph of some edges, and the ends of trails that pass each of its edges once.
use Rattle.std.specs.Prelude.{ℕ, ◌≡◌, ◌+◌, ◌*◌, ◌%◌, ◌==◌, ◌&&◌, Bool, if◌then◌else◌, List, [], ◌∷◌, All, sum_by}
use Rattle.std.specs.List.{list_any}
use Rattle.row_trails.specs.Trails.{size}
use Rattle.row_state.specs.Classes.{joined}
use Rattle.trail_state.specs.declared.edge.Edge.{Edge}

-- how many ends of edges meet the node: both of an edge from the node to itself
abbrev pub degree : List Edge → ℕ → ℕ
degree es v = sum_by (λ (e : Edge). (if v == e.a.0 then 1 else 0) + (if v == e.b.0 then 1 else 0)) es

abbrev pub is_odd : List Edge → ℕ → Bool
is_odd es v = degree es v % 2 == 1

-- Labels that are alike at both ends of each edge are always alike at the two nodes: edges lead from one to the other.
abbrev pub AreChained : List Edge → ℕ → ℕ → Type 0
AreChained es u v = (label : ℕ → ℕ) → All (λ (e : Edge). label e.a.0 ≡ label e.b.0) es → label u ≡ label v

-- the name of a node's class: the least node that is chained with it
abbrev pub class_of : List Edge → ℕ → ℕ
class_of [] v = v
class_of (e ∷ es) v = joined (class_of es e.a.0) (class_of es e.b.0) (class_of es v)

abbrev pub has_edge : List Edge → ℕ → Bool
has_edge es h = list_any (λ (e : Edge). class_of es e.a.0 == h) es

-- a class of edges, whose nodes below n are all even
abbrev pub is_even_class : ℕ → List Edge → ℕ → Bool
is_even_class n es h = has_edge es h && (size n (λ v. (class_of es v == h) && is_odd es v) == 0)

-- Of nodes below n: a trail ends at each odd node, and two ends are in each class of edges without odd nodes, since the
-- trail through it ends where it begins.
unfoldable pub ends_of : ℕ → List Edge → ℕ
ends_of n es = size n (is_odd es) + 2 * size n (is_even_class n es)
