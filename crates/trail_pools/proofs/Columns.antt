-- The columns of a gate: fingers on it, and the nets of full columns.
use Rattle.std.proofs.Common.{ℕ, ◌≡◌, ◌/◌, ◌%◌, ◌<◌, ◌==◌, ◌&&◌, true, max, List, length, Option, Some, None, refl, sym}
use Rattle.std.proofs.Common.{ap, arith, ◌∙◌, inl, inr, Contains}
use Rattle.std.proofs.lemmas.Bool.{and_from}
use Rattle.std.proofs.lemmas.List.Sorted.{length_permutation}
use Rattle.std.proofs.lemmas.List.Sums.{length-filter}
use Rattle.cell_num.specs.declared.finger.Row.{Row}
use Rattle.cell_num.specs.declared.finger.Row.TheVariants.{P, N}
use Rattle.cell_num.specs.declared.finger.Finger.{Finger}
use Rattle.cell_num.specs.declared.finger.Fingers.{Fingers}
use Rattle.cell_num.specs.Fingers.{AreFingers, on_gate}
use Rattle.cell_num.proofs.Pairs.{test_there}
use Rattle.row_model.specs.declared.column.Placed.{Placed}
use Rattle.row_model.specs.declared.column.Column.{Column}
use Rattle.row_model.specs.Arrangement.{IsArrangement, fingers_in, place}
use Rattle.row_model.specs.Gaps.{left_net, right_net}
use Rattle.trail_state.specs.declared.edge.Edge.{Edge}
use Rattle.trail_state.specs.Choices.{IsEdgeOf, fingers_on, is_on}
use Rattle.trail_state.specs.Edges.{pair_node}
use Rattle.trail_state.specs.Nodes.{has_net, is_net_on}
use Rattle.trail_state.specs.Places.{is_end}
use Rattle.trail_state.proofs.Grouped.{columns_of_gate}
use Rattle.trail_state.proofs.Members.{Passes}
use Rattle.trail_state.proofs.Opened.{end_of, fewer_fingers, left_has, right_has}
use Rattle.open_gates.specs.Open.{fingers_beside}
use Rattle.trail_halves.specs.Open.{half_of, is_filled, is_none, row_of}
use Rattle.trail_halves.proofs.Parted.{columns_small, on_row, other_row, stands_there}
use Rattle.trail_pools.specs.Meeting.{net_beside}

module _ (f : Fingers) (ok : AreFingers f) (g : ℕ) (within : g < f.nets) (columns : List Column)
    (arranges : IsArrangement columns (fingers_on g f)) where
  columns_are : length columns ≡ max (on_gate g f.p) (on_gate g f.n)
  columns_are = arranges.fewest ∙ columns_of_gate f g within

  -- a row with an empty place has fewer fingers on the gate than the other
  pub fewer : (s : Row) (c : Column) → Contains columns c → place s c ≡ None
      → on_gate g (row_of s f) < on_gate g (row_of (other_row s) f)
  fewer P c there none = omega (
    arith,
    columns_are,
    fewer_fingers P columns c there none,
    length_permutation (fingers_on g f).p (fingers_in P columns) arranges.p,
    length-filter (is_on g) f.p,
  )
  fewer N c there none = omega (
    arith,
    columns_are,
    fewer_fingers N columns c there none,
    length_permutation (fingers_on g f).n (fingers_in N columns) arranges.n,
    length-filter (is_on g) f.n,
  )

  -- a finger of a column is on the gate
  pub on_net : (s : Row) (c : Column) (x : Placed) (net : ℕ) → Contains columns c → place s c ≡ Some x
      → has_net net x.finger ≡ true → is_net_on (row_of s f) g net ≡ true
  on_net s c x net there is has =
      let mine : Passes (λ (y : Finger). y.gate.0 == g) (row_of s f) x.finger =
      on_row s f g x.finger (stands_there s columns (fingers_on g f) arranges c x there is) in
      test_there (λ (y : Finger). (y.gate.0 == g) && has_net net y) (row_of s f) x.finger mine.there
      (and_from (x.finger.gate.0 == g) (has_net net x.finger) mine.passes has)

  -- the nodes of a full column
  full_nets : (c : Column) (x y : Placed) (e : Edge) (v : ℕ) → Contains columns c → c.p ≡ Some x → c.n ≡ Some y
      → IsEdgeOf f (Some x) (Some y) e → is_end v e ≡ true
      → (is_net_on f.p g (v / 256) ≡ true) × (is_net_on f.n g (v % 256) ≡ true)
  full_nets c x y e v there is_x is_y is end =
      let small : ((left_net y).0 < 256) × ((right_net y).0 < 256) =
      columns_small f ok g columns arranges c there y is_y in
      elim (end_of v (pair_node (left_net x).0 (left_net y).0) (pair_node (right_net x).0 (right_net y).0)
      (sym (ap (is_end v) is) ∙ end)) [
        | inl a ↦
            let high : v / 256 ≡ (left_net x).0 = omega (arith, a, small.0) in
            let low : v % 256 ≡ (left_net y).0 = omega (arith, a, small.0) in (
              ap (is_net_on f.p g) high ∙ on_net P c x (left_net x).0 there is_x (left_has x),
              ap (is_net_on f.n g) low ∙ on_net N c y (left_net y).0 there is_y (left_has y),
            )
        | inr b ↦
            let high : v / 256 ≡ (right_net x).0 = omega (arith, b, small.1) in
            let low : v % 256 ≡ (right_net y).0 = omega (arith, b, small.1) in (
              ap (is_net_on f.p g) high ∙ on_net P c x (right_net x).0 there is_x (right_has x),
              ap (is_net_on f.n g) low ∙ on_net N c y (right_net y).0 there is_y (right_has y),
            )
      ]

  -- where the row has more fingers on the gate, columns that are no half columns of it are full
  pub full_beside : (r : Row) (c : Column) (e : Edge) (v : ℕ)
      → on_gate g (row_of (other_row r) f) < on_gate g (row_of r f) → Contains columns c → is_filled r c ≡ true
      → IsEdgeOf f c.p c.n e → is_end v e ≡ true → is_net_on (fingers_beside r f) g (net_beside r v) ≡ true
  full_beside P c e v more there filled is end = by c.p c.n refl refl filled is
    where
      by : (o q : Option Placed) → c.p ≡ o → c.n ≡ q → is_none (half_of o q) ≡ true → IsEdgeOf f o q e
          → is_net_on f.n g (v % 256) ≡ true
      by (Some x) (Some y) is_x is_y whole drawn = (full_nets c x y e v there is_x is_y drawn end).1
      by (Some x) None is_x is_y whole drawn = absurd cc
      by None (Some y) is_x is_y whole drawn = absurd (omega (arith, more, fewer P c there is_x))
      by None None is_x is_y whole drawn = absurd drawn
  full_beside N c e v more there filled is end = by c.p c.n refl refl filled is
    where
      by : (o q : Option Placed) → c.p ≡ o → c.n ≡ q → is_none (half_of q o) ≡ true → IsEdgeOf f o q e
          → is_net_on f.p g (v / 256) ≡ true
      by (Some x) (Some y) is_x is_y whole drawn = (full_nets c x y e v there is_x is_y drawn end).0
      by (Some x) None is_x is_y whole drawn = absurd (omega (arith, more, fewer N c there is_y))
      by None (Some y) is_x is_y whole drawn = absurd cc
      by None None is_x is_y whole drawn = absurd drawn
