-- The choices of a gate: which of its P fingers is above which N finger, turned alike or not.
use Rattle.std.specs.Prelude.{ℕ, ◌≡◌, ◌==◌, Bool, List, Option, Some, None, true, Contains, IsPermutation}
use Rattle.std.specs.List.{AllZip, filter}
use Rattle.cell_num.specs.declared.finger.Finger.{Finger}
use Rattle.cell_num.specs.declared.finger.Fingers.{Fingers}
use Rattle.row_model.specs.declared.column.Placed.{Placed}
use Rattle.row_model.specs.declared.column.Column.{Column}
use Rattle.row_model.specs.Arrangement.{IsArrangement}
use Rattle.row_model.specs.Gaps.{left_net, right_net}
use Rattle.trail_state.specs.declared.edge.Edge.{Edge}
use Rattle.trail_state.specs.Edges.{edge_of}
use Rattle.trail_state.specs.Nodes.{is_net_in}

-- An edge of a column. An empty place is filled: it has any two nets of its row at its ends.
abbrev pub IsEdgeOf : Fingers → Option Placed → Option Placed → Edge → Type 0
IsEdgeOf f (Some x) (Some y) e = e ≡ edge_of (left_net x).0 (left_net y).0 (right_net x).0 (right_net y).0
IsEdgeOf f (Some x) None e =
    (l : ℕ) × (r : ℕ) × (is_net_in f.n l ≡ true) × (is_net_in f.n r ≡ true)
    × (e ≡ edge_of (left_net x).0 l (right_net x).0 r)
IsEdgeOf f None (Some y) e =
    (l : ℕ) × (r : ℕ) × (is_net_in f.p l ≡ true) × (is_net_in f.p r ≡ true)
    × (e ≡ edge_of l (left_net y).0 r (right_net y).0)
IsEdgeOf f None None e = ⊥

abbrev pub AreEdgesOf : Fingers → List Column → List Edge → Type 0
AreEdgesOf f columns edges = AllZip (λ (c : Column) (e : Edge). IsEdgeOf f c.p c.n e) columns edges

abbrev pub is_on : ℕ → Finger → Bool
is_on g x = x.gate.0 == g

abbrev pub fingers_on : ℕ → Fingers → Fingers
fingers_on gate f = record {
  nets = f.nets;
  p = filter (λ (x : Finger). x.gate.0 == gate) f.p;
  n = filter (λ (x : Finger). x.gate.0 == gate) f.n;
}

-- the edges of some columns that arrange the fingers of the gate
pub record IsChoice (f : Fingers) (gate : ℕ) (choice : List Edge) : Type 0 where
  pub columns : List Column
  pub arranges : IsArrangement columns (fingers_on gate f)
  pub edges : List Edge
  pub filled : AreEdgesOf f columns edges
  pub listed : IsPermutation edges choice

-- one of the lists has these edges, in some order
pub record HasChoice (lists : List (List Edge)) (choice : List Edge) : Type 0 where
  pub it : List Edge
  pub there : Contains lists it
  pub same : IsPermutation choice it
