-- The columns of a gate that is left open, each filled somehow, have the edges of its one choice once nodes are merged.
use Rattle.std.proofs.Common.{ℕ, ◌≡◌, ◌<◌, Bool, true, false, if◌then◌else◌, max, List, [], ◌∷◌, Option, Some, None, option_map, length, map, refl, sym, ap, subst, arith, ◌∙◌, Contains, IsPermutation}
use Rattle.std.specs.List.{cons_option, filter}
use Rattle.std.proofs.lemmas.List.Sorted.{Contains-permutation, IsPermutation-map, IsPermutation-sym, IsPermutation-trans, length_permutation}
use Rattle.std.proofs.lemmas.List.Sums.{length-filter}
use Rattle.cell_num.specs.declared.finger.Row.{Row}
use Rattle.cell_num.specs.declared.finger.Row.TheVariants.{P, N}
use Rattle.cell_num.specs.declared.finger.Finger.{Finger}
use Rattle.cell_num.specs.declared.finger.Fingers.{Fingers}
use Rattle.cell_num.specs.Fingers.{AreFingers, on_gate}
use Rattle.cell_num.proofs.Lists.{contains_filter_map, contains_here, contains_there}
use Rattle.row_model.specs.declared.column.Placed.{Placed}
use Rattle.row_model.specs.declared.column.Column.{Column}
use Rattle.row_model.specs.Arrangement.{fingers_in, place}
use Rattle.row_model.specs.Gaps.{left_net, right_net}
use Rattle.trail_state.specs.declared.edge.Edge.{Edge}
use Rattle.trail_state.specs.Choices.{AreEdgesOf, IsChoice, IsEdgeOf, is_on}
use Rattle.trail_state.specs.Edges.{edge_between, pair_node}
use Rattle.trail_state.specs.Nodes.{has_net, is_net_in}
use Rattle.trail_state.proofs.Grouped.{columns_of_gate}
use Rattle.trail_state.proofs.Members.{Passes, passes_from}
use Rattle.trail_state.proofs.Opened.{fewer_fingers, in_net, left_has, net_small, right_has}
use Rattle.open_gates.specs.Leveled.{open_choice, open_edge}
use Rattle.open_gates.specs.Merged.{in_order, merged, merged_edge, net_in, node_of}
use Rattle.open_gates.specs.Open.{fingers_at, fingers_beside}
use Rattle.open_gates.proofs.Merging.{edge_turned, merged_between}
use Rattle.open_gates.proofs.Sorting.{in_order_permutes}

-- the node of a net of the row and one of the other row
abbrev node_by : Row → ℕ → ℕ → ℕ
node_by P mine other = pair_node mine other
node_by N mine other = pair_node other mine

net_of_node : (row : Row) (mine other : ℕ) → mine < 256 → other < 256 → net_in row (node_by row mine other) ≡ mine
net_of_node P mine other m o = omega (arith, m, o)
net_of_node N mine other m o = omega (arith, m, o)

-- what stands beside a merged net is lost
merges : (row : Row) (nets : ℕ → Bool) (mine other : ℕ) → mine < 256 → other < 256 → nets mine ≡ true → merged row nets (node_by row mine other) ≡ node_of row mine
merges row nets mine other m o is =
    let net : net_in row (node_by row mine other) ≡ mine = net_of_node row mine other m o in
    ap (λ v. if nets v then node_of row v else node_by row mine other) net ∙ ap (λ b. if b then node_of row mine else node_by row mine other) is

-- a placed finger's ends, whichever way it is turned
placed_edge : (row : Row) (x : Placed) → edge_between (node_of row (left_net x).0) (node_of row (right_net x).0) ≡ open_edge row x.finger
placed_edge row x = at x.flipped
  where
    at : (b : Bool) → edge_between (node_of row (if b then x.finger.hi else x.finger.lo).0) (node_of row (if b then x.finger.lo else x.finger.hi).0) ≡ open_edge row x.finger
    at true = edge_turned (node_of row x.finger.hi.0) (node_of row x.finger.lo.0)
    at false = refl

-- an edge of a column with a finger of the row: the nets of the other row are somehow
record HasEnds (row : Row) (x : Placed) (e : Edge) : Type 0 where
  pub left : ℕ
  pub right : ℕ
  pub left_small : left < 256
  pub right_small : right < 256
  pub is : e ≡ edge_between (node_by row (left_net x).0 left) (node_by row (right_net x).0 right)

ends_merged : (row : Row) (nets : ℕ → Bool) (x : Placed) (e : Edge) → HasEnds row x e → (left_net x).0 < 256 → (right_net x).0 < 256 → nets (left_net x).0 ≡ true → nets (right_net x).0 ≡ true → merged_edge row nets e ≡ open_edge row x.finger
ends_merged row nets x e ends l r l_in r_in =
    ap (merged_edge row nets) ends.is
    ∙ merged_between row nets (node_by row (left_net x).0 ends.left) (node_by row (right_net x).0 ends.right)
    ∙ ap (λ v. edge_between v (merged row nets (node_by row (right_net x).0 ends.right))) (merges row nets (left_net x).0 ends.left l ends.left_small l_in)
    ∙ ap (edge_between (node_of row (left_net x).0)) (merges row nets (right_net x).0 ends.right r ends.right_small r_in)
    ∙ placed_edge row x

-- a choice of a gate that has more fingers in the row, where the nets at their ends are merged
module _ (f : Fingers) (g : ℕ) (ok : AreFingers f) (within : g < f.nets) (row : Row) (more : on_gate g (fingers_beside row f) < on_gate g (fingers_at row f))
    (nets : ℕ → Bool) (covers : (x : Finger) (net : ℕ) → Contains (fingers_at row f) x → is_on g x ≡ true → has_net net x ≡ true → nets net ≡ true)
    (c : List Edge) (choice : IsChoice f g c) where
  arranges_in : (r : Row) → IsPermutation (filter (is_on g) (fingers_at r f)) (fingers_in r choice.columns)
  arranges_in P = choice.arranges.p
  arranges_in N = choice.arranges.n

  on : (r : Row) (col : Column) (x : Placed) → Contains choice.columns col → place r col ≡ Some x → Passes (is_on g) (fingers_at r f) x.finger
  on r col x at is =
      let listed : Contains (fingers_in r choice.columns) x.finger = contains_filter_map (λ (d : Column). option_map (λ (y : Placed). y.finger) (place r d)) choice.columns col x.finger at (ap (option_map (λ (y : Placed). y.finger)) is) in
      passes_from (is_on g) (fingers_at r f) x.finger (Contains-permutation (fingers_in r choice.columns) (filter (is_on g) (fingers_at r f)) x.finger (IsPermutation-sym (filter (is_on g) (fingers_at r f)) (fingers_in r choice.columns) (arranges_in r)) listed)

  net_below : (r : Row) (net : ℕ) → is_net_in (fingers_at r f) net ≡ true → net < 256
  net_below P net is = net_small P f.nets f.p net ok.p ok.few_nets is
  net_below N net is = net_small N f.nets f.n net ok.n ok.few_nets is

  beside_below : (r : Row) (net : ℕ) → is_net_in (fingers_beside r f) net ≡ true → net < 256
  beside_below P net is = net_below N net is
  beside_below N net is = net_below P net is

  -- a net of a finger that a column has in the row
  has_in : (r : Row) (net : ℕ) (col : Column) (x : Placed) → Contains choice.columns col → place r col ≡ Some x → has_net net x.finger ≡ true → is_net_in (fingers_at r f) net ≡ true
  has_in r net col x at is has = in_net (fingers_at r f) net x.finger (on r col x at is).there has

  many_in : (r : Row) → on_gate g (fingers_beside r f) < on_gate g (fingers_at r f) → length choice.columns ≡ on_gate g (fingers_at r f)
  many_in P less = let all : length choice.columns ≡ max (on_gate g f.p) (on_gate g f.n) = choice.arranges.fewest ∙ columns_of_gate f g within in omega (arith, all, less)
  many_in N less = let all : length choice.columns ≡ max (on_gate g f.p) (on_gate g f.n) = choice.arranges.fewest ∙ columns_of_gate f g within in omega (arith, all, less)

  -- each column has a finger of the row
  no_empty : (col : Column) → Contains choice.columns col → place row col ≡ None → ⊥
  no_empty col at none =
      omega (arith, many_in row more, fewer_fingers row choice.columns col at none, length_permutation (filter (is_on g) (fingers_at row f)) (fingers_in row choice.columns) (arranges_in row), length-filter (is_on g) (fingers_at row f))

  -- the other ends of the edge are at nets of the other row
  ends_by : (r : Row) (x : Placed) (left right : ℕ) (e : Edge) → is_net_in (fingers_beside r f) left ≡ true → is_net_in (fingers_beside r f) right ≡ true → e ≡ edge_between (node_by r (left_net x).0 left) (node_by r (right_net x).0 right) → HasEnds r x e
  ends_by r x left right e left_in right_in is = record {
    left = left;
    right = right;
    left_small = beside_below r left left_in;
    right_small = beside_below r right right_in;
    is = is;
  }

  p_ends : (col : Column) (x : Placed) (y : Option Placed) (e : Edge) → Contains choice.columns col → col.n ≡ y → IsEdgeOf f (Some x) y e → HasEnds P x e
  p_ends col x (Some y) e at is h = ends_by P x (left_net y).0 (right_net y).0 e (has_in N (left_net y).0 col y at is (left_has y)) (has_in N (right_net y).0 col y at is (right_has y)) h
  p_ends col x None e at none (left, right, left_in, right_in, h) = ends_by P x left right e left_in right_in h

  n_ends : (col : Column) (x : Placed) (y : Option Placed) (e : Edge) → Contains choice.columns col → col.p ≡ y → IsEdgeOf f y (Some x) e → HasEnds N x e
  n_ends col x (Some y) e at is h = ends_by N x (left_net y).0 (right_net y).0 e (has_in P (left_net y).0 col y at is (left_has y)) (has_in P (right_net y).0 col y at is (right_has y)) h
  n_ends col x None e at none (left, right, left_in, right_in, h) = ends_by N x left right e left_in right_in h

  column_ends : (r : Row) (col : Column) (x : Placed) (e : Edge) → Contains choice.columns col → place r col ≡ Some x → IsEdgeOf f col.p col.n e → HasEnds r x e
  column_ends P col x e at is h = p_ends col x col.n e at refl (subst (λ (o : Option Placed). IsEdgeOf f o col.n e) is h)
  column_ends N col x e at is h = n_ends col x col.p e at refl (subst (λ (o : Option Placed). IsEdgeOf f col.p o e) is h)

  one_merged : (col : Column) (x : Placed) (e : Edge) → Contains choice.columns col → place row col ≡ Some x → IsEdgeOf f col.p col.n e → merged_edge row nets e ≡ open_edge row x.finger
  one_merged col x e at is h =
      let mine : Passes (is_on g) (fingers_at row f) x.finger = on row col x at is in
      ends_merged row nets x e (column_ends row col x e at is h)
      (net_below row (left_net x).0 (has_in row (left_net x).0 col x at is (left_has x))) (net_below row (right_net x).0 (has_in row (right_net x).0 col x at is (right_has x)))
      (covers x.finger (left_net x).0 mine.there mine.passes (left_has x)) (covers x.finger (right_net x).0 mine.there mine.passes (right_has x))

  first_merged : (col : Column) (cols : List Column) (e : Edge) (es : List Edge) (o : Option Placed) → Contains choice.columns col → place row col ≡ o → IsEdgeOf f col.p col.n e → map (merged_edge row nets) es ≡ map (open_edge row) (fingers_in row cols)
      → map (merged_edge row nets) (e ∷ es) ≡ map (open_edge row) (fingers_in row (col ∷ cols))
  first_merged col cols e es None at none h rest = absurd (no_empty col at none)
  first_merged col cols e es (Some x) at is h rest =
      let first : merged_edge row nets e ≡ open_edge row x.finger = one_merged col x e at is h in
      let listed : fingers_in row (col ∷ cols) ≡ x.finger ∷ fingers_in row cols = ap (λ (o : Option Placed). cons_option (option_map (λ (y : Placed). y.finger) o) (fingers_in row cols)) is in
      let both : map (merged_edge row nets) (e ∷ es) ≡ open_edge row x.finger ∷ map (open_edge row) (fingers_in row cols) = λ i. first i ∷ rest i in
      both ∙ ap (map (open_edge row)) (sym listed)

  edges_merged : (cols : List Column) (es : List Edge) → AreEdgesOf f cols es → ((col : Column) → Contains cols col → Contains choice.columns col) → map (merged_edge row nets) es ≡ map (open_edge row) (fingers_in row cols)
  edges_merged [] [] zipped among = refl
  edges_merged [] (e ∷ es) zipped among = absurd zipped
  edges_merged (col ∷ cols) [] zipped among = absurd zipped
  edges_merged (col ∷ cols) (e ∷ es) zipped among =
      first_merged col cols e es (place row col) (among col (contains_here col cols)) refl zipped.0 (edges_merged cols es zipped.1 (λ d k. among d (contains_there col cols d k)))

  pub one_choice : IsPermutation (map (merged_edge row nets) c) (open_choice row f g)
  one_choice =
      let h : Edge → Edge = merged_edge row nets in
      let mine : List Finger = filter (is_on g) (fingers_at row f) in
      let drawn : List Edge = map (open_edge row) (fingers_in row choice.columns) in
      let from : IsPermutation (map h c) (map h choice.edges) = IsPermutation-sym (map h choice.edges) (map h c) (IsPermutation-map h choice.edges c choice.listed) in
      let are : map h choice.edges ≡ drawn = edges_merged choice.columns choice.edges choice.filled (λ col k. k) in
      let back : IsPermutation drawn (map (open_edge row) mine) = IsPermutation-sym (map (open_edge row) mine) drawn (IsPermutation-map (open_edge row) mine (fingers_in row choice.columns) (arranges_in row)) in
      IsPermutation-trans (map h c) drawn (in_order (map (open_edge row) mine)) (subst (IsPermutation (map h c)) are from)
      (IsPermutation-trans drawn (map (open_edge row) mine) (in_order (map (open_edge row) mine)) back (in_order_permutes (map (open_edge row) mine)))
