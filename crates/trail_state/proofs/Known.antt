-- Columns that are known: earlier parts lead to the same parts, so that leaving these out changes no front.
use Rattle.std.proofs.Common.{ℕ, ◌≡◌, ◌<◌, ◌≤◌, ◌+◌, Bool, true, false, if◌then◌else◌, leb, List, [], ◌∷◌, ◌++◌, Some, drop, get_or, length, slice_get, take, refl, sym, ap, subst, arith, ◌∙◌, inl, inr, Contains}
use Rattle.std.specs.List.{flat_map, position_or_len}
use Rattle.std.proofs.lemmas.Bool.{both_ways, cases_Bool, le-leb, leb-true}
use Rattle.std.proofs.lemmas.List.{drop_all, drop_more, get_or-take, length-take, take-append-drop, take-append-le, take-take}
use Rattle.std.proofs.lemmas.List.Elements.{Contains-append_cases, Contains-append_left, Contains-append_right, Contains-get_or}
use Rattle.std.proofs.lemmas.List.Sums.{fails_before_first}
use Rattle.std.proofs.lemmas.Option.{get_or_from_slice_get, slice_get_within}
use Rattle.cell_num.proofs.In.{Image, Piece, contains_flat, contains_map, in_flat, in_map}
use Rattle.cell_num.proofs.Lists.{contains_get, contains_none, some_same}
use Rattle.trail_state.specs.declared.edge.Edge.{Edge}
use Rattle.trail_state.specs.declared.edge.FingerEnds.{FingerEnds}
use Rattle.trail_state.specs.declared.front.Part.{Part}
use Rattle.trail_state.specs.declared.gate.Gate.{Gate}
use Rattle.trail_state.specs.Edges.{n_edges, p_edges, pair_edges}
use Rattle.trail_state.specs.Fronts.{alone, n_alone, next_parts, paired, paired_with, same_nets, with_column, without}
use Rattle.trail_state.specs.Known.{AreNext, Before, HasAll, known_alone, known_edges}
use Rattle.trail_state.specs.Same.{nets_decides, nets_same}
use Rattle.trail_state.specs.Sorted.{inserted}
use Rattle.trail_state.proofs.Swapped.{inserts_swap, one_shorter, other_stays, takes_swap}

-- a member of the first items is one of all
pub taken_there : {X : Type 0} (n : ℕ) (xs : List X) (x : X) → Contains (take n xs) x → Contains xs x
taken_there n xs x there = subst (λ l. Contains l x) (take-append-drop n xs) (Contains-append_left (take n xs) (drop n xs) x there)

-- the part with an edge more, and these fingers left
abbrev with_edge : Part → List FingerEnds → Edge → Part
with_edge part left e = record { edges = inserted e part.edges; left = left }

-- with a further edge; the two are added in either order
twice : (part : Part) (l m left : List FingerEnds) (d e : Edge) → with_edge (with_edge part l e) left d ≡ with_edge (with_edge part m d) left e
twice part l m left d e = ap (λ edges. let p : Part = record { edges = edges; left = left } in p) (inserts_swap d e part.edges)

-- both edges in turn, the other way round
other_way : (part : Part) (l m left : List FingerEnds) (d e : Edge) (edges : List Edge) (p : Part) → Contains edges e → with_edge (with_edge part l e) left d ≡ p → Contains (with_column (with_edge part m d) left edges) p
other_way part l m left d e edges p listed is =
    subst (Contains (with_column (with_edge part m d) left edges)) (sym (twice part l m left d e) ∙ is) (contains_map (with_edge (with_edge part m d) left) edges e listed)

paired_has : (gate : Gate) (x : FingerEnds) (xs : List FingerEnds) (part : Part) (y : FingerEnds) (p : Part) → Contains part.left y → Contains (paired_with x part y) p → Contains (next_parts gate (x ∷ xs) part) p
paired_has gate x xs part y p there has = Contains-append_left (paired x part) (alone gate x xs part) p (contains_flat (paired_with x part) part.left y p there has)

alone_is : (gate : Gate) (x : FingerEnds) (xs : List FingerEnds) (part : Part) → length part.left ≤ length xs → alone gate x xs part ≡ with_column part part.left (p_edges gate.n_fill x)
alone_is gate x xs part few = ap (λ b. if b then with_column part part.left (p_edges gate.n_fill x) else []) (le-leb (length part.left) (length xs) few)

alone_has : (gate : Gate) (x : FingerEnds) (xs : List FingerEnds) (part : Part) (p : Part) → length part.left ≤ length xs → Contains (with_column part part.left (p_edges gate.n_fill x)) p → Contains (next_parts gate (x ∷ xs) part) p
alone_has gate x xs part p few has = Contains-append_right (paired x part) (alone gate x xs part) p (subst (λ l. Contains l p) (sym (alone_is gate x xs part few)) has)

none_taken : (part : Part) (left : List FingerEnds) (edges : List Edge) (again : Bool) (number : ℕ) (p : Part) → again ≡ false → Contains (with_column part left (take (if again then number else 0) edges)) p → ⊥
none_taken part left edges again number p off has = contains_none p (subst (λ b. Contains (with_column part left (take (if b then number else 0) edges)) p) off has)

some_taken : (part : Part) (left : List FingerEnds) (edges : List Edge) (again : Bool) (number : ℕ) (p : Part) → again ≡ true → Contains (with_column part left (take (if again then number else 0) edges)) p → Contains (with_column part left (take number edges)) p
some_taken part left edges again number p on has = subst (λ b. Contains (with_column part left (take (if b then number else 0) edges)) p) on has

none_alone : (gate : Gate) (x : FingerEnds) (xs : List FingerEnds) (part : Part) (again : Bool) (number : ℕ) (p : Part) → again ≡ false → Contains (known_edges gate x xs part (if again then number else 0) []) p → ⊥
none_alone gate x xs part again number p off has = elim (cases_Bool (leb (length part.left) (length xs))) [
  | inl few ↦ none_taken part part.left (p_edges gate.n_fill x) again number p off (subst (λ l. Contains l p) (ap (λ b. if b then with_column part part.left (take (if again then number else 0) (p_edges gate.n_fill x)) else []) few) has)
  | inr more ↦ contains_none p (subst (λ l. Contains l p) (ap (λ b. if b then with_column part part.left (take (if again then number else 0) (p_edges gate.n_fill x)) else []) more) has)
]

nets_back : (z y : FingerEnds) → same_nets z y ≡ true → same_nets y z ≡ true
nets_back z y on = (nets_decides y z).1 (sym (nets_same z y on))

pub drop_stands : (at : ℕ) (left : List FingerEnds) (y : FingerEnds) → slice_get left at ≡ Some y → drop at left ≡ y ∷ drop (at + 1) left
drop_stands at left y stands = drop_more left at y (slice_get_within left at y stands) ∙ ap (λ z. z ∷ drop (at + 1) left) (get_or_from_slice_get left at y y stands)

-- ---- a P finger beside one of the N fingers left, then one with the same nets beside another one

module _ (gate : Gate) (x : FingerEnds) (xs : List FingerEnds) (before : List Part) (part : Part) (y : FingerEnds) (at : ℕ) (again : Bool)
    (first : at ≡ position_or_len (same_nets y) part.left) (there : at < length part.left) (stands : again ≡ true → slice_get (without y part.left) at ≡ Some y)
    (mine : Contains part.left y) (has : HasAll before (flat_map (paired_with x part) (take at part.left))) where
  abbrev others : List FingerEnds
  others = without y part.left

  fronts_same : take at others ≡ take at part.left
  fronts_same =
      let split : others ≡ take at part.left ++ drop (at + 1) part.left = ap (λ i. take i part.left ++ drop (i + 1) part.left) (sym first) in
      ap (take at) split ∙ take-append-le at (take at part.left) (drop (at + 1) part.left) (omega (arith, there, length-take at part.left)) ∙ take-take at at part.left (omega arith)

  -- beside an earlier one
  earlier : (number : ℕ) (e : Edge) (p : Part) → Contains (pair_edges x y) e → Contains (flat_map (paired_with x (with_edge part others e)) (take at others)) p → Before gate (x ∷ xs) (before ++ with_column part others (take number (pair_edges x y))) p
  earlier number e p listed c =
      let beside : Piece (paired_with x (with_edge part others e)) (take at others) p = in_flat (paired_with x (with_edge part others e)) (take at others) p c in
      let z : FingerEnds = beside.of in
      let by : Image (with_edge (with_edge part others e) (without z others)) (pair_edges x z) p = in_map (with_edge (with_edge part others e) (without z others)) (pair_edges x z) p beside.inside in
      let d : Edge = by.of in
      let z_there : Contains (take at part.left) z = subst (λ l. Contains l z) fronts_same beside.listed in
      let other : same_nets z y ≡ false = differs z z_there in
      let q : Part = with_edge part (without z part.left) d in
      let q_there : Contains before q = has q (contains_flat (paired_with x part) (take at part.left) z q z_there (contains_map (with_edge part (without z part.left)) (pair_edges x z) d by.listed)) in
      let same : without z others ≡ without y (without z part.left) = takes_swap z y part.left in
      record {
        part = q;
        there = Contains-append_left before (with_column part others (take number (pair_edges x y))) q q_there;
        next = paired_has gate x xs q y p (other_stays z y part.left mine other)
            (other_way part others (without z part.left) (without y (without z part.left)) d e (pair_edges x y) p listed (ap (λ l. with_edge (with_edge part others e) l d) (sym same) ∙ by.is));
      }
    where
      differs : (z : FingerEnds) → Contains (take at part.left) z → same_nets z y ≡ false
      differs z (k, within, is) = elim (cases_Bool (same_nets z y)) [
        | inl on ↦ absurd (both_ways (same_nets y z) (fails_at z k within is) (nets_back z y on))
        | inr off ↦ off
      ]
        where
          fails_at : (z : FingerEnds) (k : ℕ) → k < length (take at part.left) → get_or (take at part.left) k z ≡ z → same_nets y z ≡ false
          fails_at z k within is =
              let inside : k < at = omega (arith, within, length-take at part.left) in
              sym (ap (same_nets y) (sym (get_or-take at part.left k z inside) ∙ is)) ∙ fails_before_first (same_nets y) part.left k z (omega (arith, first, inside))

  -- beside one with the same nets again
  repeated : (number : ℕ) (e : Edge) (p : Part) → Contains (pair_edges x y) e → Contains (known_edges gate x xs (with_edge part others e) (if again then number else 0) (drop at others)) p → Before gate (x ∷ xs) (before ++ with_column part others (take number (pair_edges x y))) p
  repeated number e p listed c = elim (cases_Bool again) [
    | inl on ↦
        let tail : drop at others ≡ y ∷ drop (at + 1) others = drop_stands at others y (stands on) in
        let known : Contains (with_column (with_edge part others e) (without y others) (take number (pair_edges x y))) p =
        some_taken (with_edge part others e) (without y others) (pair_edges x y) again number p on (subst (λ l. Contains (known_edges gate x xs (with_edge part others e) (if again then number else 0) l) p) tail c) in
        let by : Image (with_edge (with_edge part others e) (without y others)) (take number (pair_edges x y)) p = in_map (with_edge (with_edge part others e) (without y others)) (take number (pair_edges x y)) p known in
        let d : Edge = by.of in
        record {
          part = with_edge part others d;
          there = Contains-append_right before (with_column part others (take number (pair_edges x y))) (with_edge part others d) (contains_map (with_edge part others) (take number (pair_edges x y)) d by.listed);
          next = paired_has gate x xs (with_edge part others d) y p (contains_get others at y (stands on)) (other_way part others others (without y others) d e (pair_edges x y) p listed by.is);
        }
    | inr off ↦ absurd (nothing (drop at others) off c)
  ]
    where
      nothing : (l : List FingerEnds) → again ≡ false → Contains (known_edges gate x xs (with_edge part others e) (if again then number else 0) l) p → ⊥
      nothing [] off h = none_alone gate x xs (with_edge part others e) again number p off h
      nothing (w ∷ ws) off h = none_taken (with_edge part others e) (without w others) (pair_edges x w) again number p off h

  pub pair_next : AreNext gate (x ∷ xs) before part others at again (pair_edges x y)
  unfolding AreNext
  pair_next number d within p c =
      let e : Edge = get_or (pair_edges x y) number d in
      let listed : Contains (pair_edges x y) e = Contains-get_or (pair_edges x y) number d within in
      elim (Contains-append_cases (flat_map (paired_with x (with_edge part others e)) (take at others)) (known_edges gate x xs (with_edge part others e) (if again then number else 0) (drop at others)) p c) [
        | inl beside ↦ earlier number e p listed beside
        | inr same ↦ repeated number e p listed same
      ]

-- ---- a P finger alone, then one with the same nets

module _ (gate : Gate) (x : FingerEnds) (xs : List FingerEnds) (before : List Part) (part : Part)
    (few : length part.left ≤ length xs + 1) (has : HasAll before (paired x part)) where
  edges : List Edge
  edges = p_edges gate.n_fill x

  -- beside an N finger
  beside_next : (number : ℕ) (e : Edge) (z : FingerEnds) (p : Part) → Contains edges e → Contains part.left z → Contains (paired_with x (with_edge part part.left e) z) p → Before gate (x ∷ xs) (before ++ with_column part part.left (take number edges)) p
  unfolding edges
  beside_next number e z p listed z_there c =
      let by : Image (with_edge (with_edge part part.left e) (without z part.left)) (pair_edges x z) p = in_map (with_edge (with_edge part part.left e) (without z part.left)) (pair_edges x z) p c in
      let d : Edge = by.of in
      let q : Part = with_edge part (without z part.left) d in
      let q_there : Contains before q = has q (contains_flat (paired_with x part) part.left z q z_there (contains_map (with_edge part (without z part.left)) (pair_edges x z) d by.listed)) in
      let shorter : length (without z part.left) ≤ length xs = omega (arith, few, one_shorter z part.left z_there) in
      record {
        part = q;
        there = Contains-append_left before (with_column part part.left (take number (p_edges gate.n_fill x))) q q_there;
        next = alone_has gate x xs q p shorter (other_way part part.left (without z part.left) (without z part.left) d e (p_edges gate.n_fill x) p listed by.is);
      }

  alone_again : (number : ℕ) (e : Edge) (p : Part) → Contains edges e → Contains (known_edges gate x xs (with_edge part part.left e) number []) p → Before gate (x ∷ xs) (before ++ with_column part part.left (take number edges)) p
  unfolding edges
  alone_again number e p listed c = elim (cases_Bool (leb (length part.left) (length xs))) [
    | inl on ↦
        let known : Contains (with_column (with_edge part part.left e) part.left (take number (p_edges gate.n_fill x))) p =
        subst (λ l. Contains l p) (ap (λ b. if b then with_column (with_edge part part.left e) part.left (take number (p_edges gate.n_fill x)) else []) on) c in
        let by : Image (with_edge (with_edge part part.left e) part.left) (take number (p_edges gate.n_fill x)) p = in_map (with_edge (with_edge part part.left e) part.left) (take number (p_edges gate.n_fill x)) p known in
        let d : Edge = by.of in
        record {
          part = with_edge part part.left d;
          there = Contains-append_right before (with_column part part.left (take number (p_edges gate.n_fill x))) (with_edge part part.left d) (contains_map (with_edge part part.left) (take number (p_edges gate.n_fill x)) d by.listed);
          next = alone_has gate x xs (with_edge part part.left d) p (leb-true (length part.left) (length xs) on) (other_way part part.left part.left part.left d e (p_edges gate.n_fill x) p listed by.is);
        }
    | inr off ↦ absurd (contains_none p (subst (λ l. Contains l p) (ap (λ b. if b then with_column (with_edge part part.left e) part.left (take number (p_edges gate.n_fill x)) else []) off) c))
  ]

  pub alone_next : AreNext gate (x ∷ xs) before part part.left (length part.left) true (p_edges gate.n_fill x)
  unfolding edges AreNext
  alone_next number d within p c =
      let e : Edge = get_or (p_edges gate.n_fill x) number d in
      let listed : Contains (p_edges gate.n_fill x) e = Contains-get_or (p_edges gate.n_fill x) number d within in
      let q : Part = with_edge part part.left e in
      elim (Contains-append_cases (flat_map (paired_with x q) (take (length part.left) part.left)) (known_edges gate x xs q number (drop (length part.left) part.left)) p c) [
        | inl beside ↦
            let of : Piece (paired_with x q) (take (length part.left) part.left) p = in_flat (paired_with x q) (take (length part.left) part.left) p beside in
            beside_next number e of.of p listed (taken_there (length part.left) part.left of.of of.listed) of.inside
        | inr same ↦ alone_again number e p listed (subst (λ l. Contains (known_edges gate x xs q number l) p) (drop_all (length part.left) part.left (omega arith)) same)
      ]

-- ---- an N finger alone, then one with the same nets

module _ (gate : Gate) (before : List Part) (part : Part) (y : FingerEnds) (ys : List FingerEnds) (again : Bool)
    (stands : again ≡ true → slice_get ys 0 ≡ Some y) where
  n_again : (number : ℕ) (e : Edge) (p : Part) (ws : List FingerEnds) → ys ≡ ws → Contains (n_edges gate.p_fill y) e → Contains (known_alone gate (with_edge part ys e) (if again then number else 0) ws) p → Before gate [] (before ++ with_column part ys (take number (n_edges gate.p_fill y))) p
  n_again number e p [] is listed c = absurd (contains_none p c)
  n_again number e p (w ∷ ws) is listed c = elim (cases_Bool again) [
    | inl on ↦
        let same : w ≡ y = some_same w y (sym (ap (λ l. slice_get l 0) is) ∙ stands on) in
        let known : Contains (with_column (with_edge part ys e) ws (take number (n_edges gate.p_fill y))) p =
        subst (λ v. Contains (with_column (with_edge part ys e) ws (take number (n_edges gate.p_fill v))) p) same (some_taken (with_edge part ys e) ws (n_edges gate.p_fill w) again number p on c) in
        let by : Image (with_edge (with_edge part ys e) ws) (take number (n_edges gate.p_fill y)) p = in_map (with_edge (with_edge part ys e) ws) (take number (n_edges gate.p_fill y)) p known in
        let d : Edge = by.of in
        let next : Contains (with_column (with_edge part ys d) ws (n_edges gate.p_fill y)) p = other_way part ys ys ws d e (n_edges gate.p_fill y) p listed by.is in
        record {
          part = with_edge part ys d;
          there = Contains-append_right before (with_column part ys (take number (n_edges gate.p_fill y))) (with_edge part ys d) (contains_map (with_edge part ys) (take number (n_edges gate.p_fill y)) d by.listed);
          next = subst (λ l. Contains (n_alone gate (with_edge part ys d) l) p) (ap (λ v. v ∷ ws) (sym same) ∙ sym is) next;
        }
    | inr off ↦ absurd (none_taken (with_edge part ys e) ws (n_edges gate.p_fill w) again number p off c)
  ]

  pub n_next : AreNext gate [] before part ys 0 again (n_edges gate.p_fill y)
  unfolding AreNext
  n_next number d within p c =
      n_again number (get_or (n_edges gate.p_fill y) number d) p ys refl (Contains-get_or (n_edges gate.p_fill y) number d within) c
