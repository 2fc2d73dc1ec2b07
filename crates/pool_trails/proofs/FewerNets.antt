-- Where fewer nets fill the empty places of a gate, none of its fronts has more parts.
use Rattle.std.specs.Prelude.{ℕ, zero, suc, ◌≡◌, ◌≤◌, ◌<◌, Bool, true, false, leb, if◌then◌else◌, max, List, [], ◌∷◌}
use Rattle.std.specs.Prelude.{◌++◌, Contains, drop, fold, length, map}
use Rattle.std.specs.List.{IsDistinct, flat_map, list_any, range_with_len}
use Rattle.std.proofs.Common.{refl, ap, subst, arith, ◌∙◌, inl, inr}
use Rattle.std.proofs.lemmas.Bool.{lt-ltb, ltb-true}
use Rattle.std.proofs.lemmas.List.Elements.{Contains-append_cases, Contains-append_left, Contains-append_right}
use Rattle.std.proofs.lemmas.Map.Keys.{IsDistinct-push}
use Rattle.std.proofs.lemmas.Map.Made.{is_member-Decides, length-le_from_is_member}
use Rattle.cell_num.proofs.In.{Image, Piece, contains_flat, contains_map, in_flat, in_map}
use Rattle.cell_num.proofs.Pairs.{Some', test_finds, test_there}
use Rattle.trail_state.specs.declared.edge.Edge.{Edge}
use Rattle.trail_state.specs.declared.edge.FingerEnds.{FingerEnds}
use Rattle.trail_state.specs.declared.front.Part.{Part}
use Rattle.trail_state.specs.declared.gate.Gate.{Gate}
use Rattle.trail_state.specs.Edges.{edge_of, n_edges, p_edges}
use Rattle.trail_state.specs.Sorted.{inserted}
use Rattle.trail_state.specs.Fronts as fronts
use Rattle.trail_state.specs.Fronts.{alone, columns_in, front_at, is_long_at, is_same, n_alone, next_front, next_parts}
use Rattle.trail_state.specs.Fronts.{paired, with_all, with_column, with_new}
use Rattle.trail_state.specs.Known.{Before, HasAll}
use Rattle.trail_state.specs.Same.{part_decides, parts_equiv}
use Rattle.trail_state.proofs.Listed.{front_from, front_has}

-- ---- a front has each part once

new_once : (parts : List Part) (p : Part) → IsDistinct is_same parts → IsDistinct is_same (with_new parts p)
new_once parts p once = by (list_any (is_same p) parts) (IsDistinct-push parts_equiv parts p once)
  where
    by : (b : Bool) → (b ≡ false → IsDistinct is_same (parts ++ p ∷ []))
        → IsDistinct is_same (if b then parts else parts ++ p ∷ [])
    by true pushed = once
    by false pushed = pushed refl

all_once : (more parts : List Part) → IsDistinct is_same parts → IsDistinct is_same (with_all parts more)
all_once [] parts once = once
all_once (p ∷ more) parts once = all_once more (with_new parts p) (new_once parts p once)

next_once : (gate : Gate) (xs : List FingerEnds) (front parts : List Part) → IsDistinct is_same parts
    → IsDistinct is_same (fold (λ (all : List Part) (part : Part). with_all all (next_parts gate xs part)) parts front)
next_once gate xs [] parts once = once
next_once gate xs (p ∷ front) parts once =
    next_once gate xs front (with_all parts (next_parts gate xs p)) (all_once (next_parts gate xs p) parts once)

front_once : (gate : Gate) (at : ℕ) → IsDistinct is_same (front_at gate at)
unfolding IsDistinct
front_once gate zero = (tt, tt)
front_once gate (suc at) = next_once gate (drop at gate.p) (front_at gate at) [] tt

-- ---- edges with more nets

module _ (some all : List ℕ) (fills : (net : ℕ) → Contains some net → Contains all net) where
  edges_more : (make : ℕ → ℕ → Edge) (e : Edge) → Contains (flat_map (λ l. map (make l) some) some) e
      → Contains (flat_map (λ l. map (make l) all) all) e
  edges_more make e there =
      let s : Piece (λ l. map (make l) some) some e = in_flat (λ l. map (make l) some) some e there in
      let i : Image (make s.of) some e = in_map (make s.of) some e s.inside in
      subst (Contains (flat_map (λ l. map (make l) all) all)) i.is
      (contains_flat (λ l. map (make l) all) all s.of (make s.of i.of) (fills s.of s.listed)
      (contains_map (make s.of) all i.of (fills i.of i.listed)))

  p_more : (x : FingerEnds) (e : Edge) → Contains (p_edges some x) e → Contains (p_edges all x) e
  p_more x e there = edges_more (λ l r. edge_of x.lo l x.hi r) e there

  n_more : (y : FingerEnds) (e : Edge) → Contains (n_edges some y) e → Contains (n_edges all y) e
  n_more y e there = edges_more (λ l r. edge_of l y.lo r y.hi) e there

-- a column more, with more edges
abbrev with_edge : Part → List FingerEnds → Edge → Part
with_edge part left e = record { edges = inserted e part.edges; left = left }

column_more : (part : Part) (left : List FingerEnds) (some all : List Edge)
    → ((e : Edge) → Contains some e → Contains all e) → HasAll (with_column part left all) (with_column part left some)
column_more part left some all fills p there =
    let i : Image (with_edge part left) some p = in_map (with_edge part left) some p there in
    subst (Contains (with_column part left all)) i.is
    (contains_map (with_edge part left) all i.of (fills i.of i.listed))

-- ---- two gates with the same fingers, where each net that fills the first fills the second

module _ (less more : Gate) (p_same : less.p ≡ more.p) (n_same : less.n ≡ more.n)
    (p_fills : (net : ℕ) → Contains less.p_fill net → Contains more.p_fill net)
    (n_fills : (net : ℕ) → Contains less.n_fill net → Contains more.n_fill net) where
  parts_more : (xs : List FingerEnds) (part : Part) → HasAll (next_parts more xs part) (next_parts less xs part)
  parts_more [] part p there = by part.left there
    where
      by : (left : List FingerEnds) → Contains (n_alone less part left) p → Contains (n_alone more part left) p
      by [] c = c
      by (y ∷ ys) c =
          column_more part ys (n_edges less.p_fill y) (n_edges more.p_fill y)
          (n_more less.p_fill more.p_fill p_fills y) p c
  parts_more (x ∷ xs) part p there =
      elim (Contains-append_cases (paired x part) (alone less x xs part) p there) [
        | inl beside ↦ Contains-append_left (paired x part) (alone more x xs part) p beside
        | inr one ↦
            Contains-append_right (paired x part) (alone more x xs part) p (by (leb (length part.left) (length xs)) one)
      ]
    where
      by : (b : Bool) → Contains (if b then with_column part part.left (p_edges less.n_fill x) else []) p
          → Contains (if b then with_column part part.left (p_edges more.n_fill x) else []) p
      by true c =
          column_more part part.left (p_edges less.n_fill x) (p_edges more.n_fill x)
          (p_more less.n_fill more.n_fill n_fills x) p c
      by false c = c

  front_more : (at : ℕ) → HasAll (front_at more at) (front_at less at)
  front_more zero p there = subst (λ left. Contains (record { edges = []; left = left } ∷ []) p) n_same there
  front_more (suc at) p there =
      let b : Before less (drop at less.p) (front_at less at) p =
      front_from less (drop at less.p) (front_at less at) p there in
      front_has more (drop at more.p) (front_at more at) b.part p (front_more at b.part b.there)
      (subst (λ xs. Contains (next_parts more xs b.part) p) (ap (drop at) p_same)
      (parts_more (drop at less.p) b.part p b.next))

  no_longer : (at : ℕ) → length (front_at less at) ≤ length (front_at more at)
  no_longer at =
      length-le_from_is_member parts_equiv (front_at less at) (front_at more at) (front_once less at)
      (λ p h. (is_member-Decides part_decides (front_at more at) p).1
      (front_more at p ((is_member-Decides part_decides (front_at less at) p).0 h)))

  long_more : (most at : ℕ) → is_long_at most less at ≡ true → is_long_at most more at ≡ true
  long_more most at long =
      let some : most < length (front_at less (suc at)) = ltb-true most (length (front_at less (suc at))) long in
      lt-ltb most (length (front_at more (suc at))) (omega (arith, some, no_longer (suc at)))

  columns_same : columns_in less ≡ columns_in more
  columns_same =
      ap (λ (xs : List FingerEnds). max (length xs) (length less.n)) p_same
      ∙ ap (λ (ys : List FingerEnds). max (length more.p) (length ys)) n_same

  -- where the first has a long front, so has the second
  pub long_with_more : (most : ℕ) → fronts.has_long_front most less ≡ true → fronts.has_long_front most more ≡ true
  unfolding fronts.has_long_front
  long_with_more most long =
      let s : Some' (λ at. is_long_at most less at ≡ true) (range_with_len 0 (columns_in less)) =
      test_finds (is_long_at most less) (range_with_len 0 (columns_in less)) long in
      test_there (is_long_at most more) (range_with_len 0 (columns_in more)) s.it
      (subst (λ n. Contains (range_with_len 0 n) s.it) columns_same s.there) (long_more most s.it s.holds)
