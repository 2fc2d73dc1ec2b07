-- The choices of a gate as a list, found column by column.
use Rattle.std.specs.Prelude.{ℕ, zero, suc, Bool, ◌&&◌, ◌==◌, ◌++◌, if◌then◌else◌, leb, ltb, max, List, [], ◌∷◌, drop}
use Rattle.std.specs.Prelude.{length, map, fold}
use Rattle.std.specs.Cmp.Lexicographic.{pointwise}
use Rattle.std.specs.List.{after_first, before_first, flat_map, list_any, range_with_len}
use Rattle.trail_state.specs.declared.edge.Edge.{Edge}
use Rattle.trail_state.specs.declared.edge.FingerEnds.{FingerEnds}
use Rattle.trail_state.specs.Edges.{n_edges, p_edges, pair_edges}
use Rattle.trail_state.specs.Sorted.{inserted}
use Rattle.trail_state.specs.declared.front.Part.{Part}
use Rattle.trail_state.specs.declared.gate.Gate.{Gate}

abbrev pub same_edge : Edge → Edge → Bool
same_edge d e = (d.a.0 == e.a.0) && (d.b.0 == e.b.0)

abbrev pub same_nets : FingerEnds → FingerEnds → Bool
same_nets x y = (x.lo == y.lo) && (x.hi == y.hi)

-- all but the first with these nets
abbrev pub without : FingerEnds → List FingerEnds → List FingerEnds
without y left = before_first (same_nets y) left ++ after_first (same_nets y) left

-- the part with one of the edges more, and these fingers left
abbrev pub with_column : Part → List FingerEnds → List Edge → List Part
with_column part left edges = map (λ e. record { edges = inserted e part.edges; left = left }) edges

-- the P finger in a column with this one of the N fingers left
abbrev pub paired_with : FingerEnds → Part → FingerEnds → List Part
paired_with x part y = with_column part (without y part.left) (pair_edges x y)

-- or with each of them
abbrev pub paired : FingerEnds → Part → List Part
paired x part = flat_map (paired_with x part) part.left

-- or alone, where the P fingers after it are as many as the N fingers left
abbrev pub alone : Gate → FingerEnds → List FingerEnds → Part → List Part
alone gate x xs part =
    if leb (length part.left) (length xs) then with_column part part.left (p_edges gate.n_fill x) else []

-- after the P fingers the first of the N fingers left alone
abbrev pub n_alone : Gate → Part → List FingerEnds → List Part
n_alone gate part [] = []
n_alone gate part (y ∷ ys) = with_column part ys (n_edges gate.p_fill y)

-- the part with its next column in each way, where these P fingers are in none yet
abbrev pub next_parts : Gate → List FingerEnds → Part → List Part
next_parts gate [] part = n_alone gate part part.left
next_parts gate (x ∷ xs) part = paired x part ++ alone gate x xs part

abbrev pub is_same : Part → Part → Bool
is_same p q = pointwise same_edge p.edges q.edges && pointwise same_nets p.left q.left

-- each part once
abbrev pub with_new : List Part → Part → List Part
with_new parts p = if list_any (is_same p) parts then parts else parts ++ p ∷ []

abbrev pub with_all : List Part → List Part → List Part
with_all parts more = fold with_new parts more

abbrev pub next_front : Gate → List FingerEnds → List Part → List Part
next_front gate xs front = fold (λ parts part. with_all parts (next_parts gate xs part)) [] front

-- no column yet
abbrev pub first_front : Gate → List Part
first_front gate = record { edges = []; left = gate.n } ∷ []

-- the front after that many columns of the gate: the different parts of its choices that these are
abbrev pub front_at : Gate → ℕ → List Part
front_at gate zero = first_front gate
front_at gate (suc at) = next_front gate (drop at gate.p) (front_at gate at)

abbrev pub columns_in : Gate → ℕ
columns_in gate = max (length gate.p) (length gate.n)

abbrev pub edges_of : List Part → List (List Edge)
edges_of parts = map (λ (p : Part). p.edges) parts

-- every choice of the gate, once
unfoldable pub choices_of : Gate → List (List Edge)
choices_of gate = edges_of (front_at gate (columns_in gate))

-- the front after one of the columns has more parts than that
abbrev pub is_long_at : ℕ → Gate → ℕ → Bool
is_long_at most gate at = ltb most (length (front_at gate (suc at)))

unfoldable pub has_long_front : ℕ → Gate → Bool
has_long_front most gate = list_any (is_long_at most gate) (range_with_len 0 (columns_in gate))
