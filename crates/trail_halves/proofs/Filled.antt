-- The law of open half edges: every filling has at least the ends that are counted without it.
use Rattle.std.proofs.Common.{ℕ, zero, suc, ◌≡◌, ◌+◌, ◌*◌, ◌%◌, ◌<◌, ◌≤◌, ◌==◌, ◌&&◌, Bool, true, false, not, if◌then◌else◌}
use Rattle.std.proofs.Common.{List, [], ◌∷◌, ◌++◌, map, refl, sym, ap, subst, arith, ◌∙◌, inl, inr, ◌⊎◌, Contains}
use Rattle.std.proofs.Common.{IsPermutation}
use Rattle.std.proofs.lemmas.Bool.{and_from, and_parts, both_ways, cases_Bool, cases_eq, eq-eqb}
use Rattle.std.proofs.lemmas.Bool.{eqb-true, ne_eqb}
use Rattle.std.proofs.lemmas.List.Elements.{All-append, All-cons, All-contains, All-nil}
use Rattle.std.proofs.lemmas.List.Elements.{Contains-append_cases, Contains-append_left, Contains-append_right}
use Rattle.std.proofs.lemmas.List.Sorted.{All-permutation, Contains-permutation, IsPermutation-sym}
use Rattle.cell_num.specs.Fingers.{sum_below}
use Rattle.cell_num.specs.declared.finger.Row.{Row}
use Rattle.cell_num.proofs.In.{Image, contains_map, in_map}
use Rattle.cell_num.proofs.Lists.{all_from_contains, contains_cons, contains_here, contains_none, contains_there}
use Rattle.cell_num.proofs.Pairs.{Some', test_finds, test_there}
use Rattle.row_trails.specs.Counts.{size_in}
use Rattle.row_trails.specs.Trails.{size}
use Rattle.row_state.specs.Chained.{chained_class, least_is_chained}
use Rattle.row_state.specs.Classes.{least_chained}
use Rattle.row_state.specs.ClassSizes.{size_in_same}
use Rattle.trail_state.specs.declared.edge.Edge.{Edge}
use Rattle.trail_state.specs.declared.edge.FingerEnds.{FingerEnds}
use Rattle.trail_state.proofs.Links.{fingers_of}
use Rattle.trail_state.proofs.Sizes.{size_mono, size_zero, sum_classes}
use Rattle.open_gates.specs.Merged.{net_in}
use Rattle.trail_check.specs.Graph as graphs
use Rattle.trail_check.specs.Graph.{class_of, ends_of, has_edge, is_odd}
use Rattle.trail_check.proofs.Edges.{HaveLabels, class_is, class_labels, class_le, one_class}
use Rattle.trail_halves.specs.Halves.{AreBelow, AreFilled, Fills, HavePools, edge_placed, half_ends, half_placed}
use Rattle.trail_halves.specs.Halves.{is_even_class, links, place_ends, place_of}
use Rattle.trail_halves.proofs.Pools.{ends_pooled, one_at_least, place_ends_le, placed_below, placed_in}
use Rattle.trail_halves.proofs.Turning.{even_many}

-- sums compared term by term
sum_le : (f g : ℕ → ℕ) (m : ℕ) → ((k : ℕ) → k < m → f k ≤ g k) → sum_below f m ≤ sum_below g m
sum_le f g zero le = omega arith
sum_le f g (suc m) le = omega (arith, sum_le f g m (λ k l. le k (omega (arith, l))), le m (omega arith))

twice_le : (q : ℕ → Bool) (f g : ℕ → ℕ) (m : ℕ) → ((k : ℕ) → k < m → 2 * (if q k then 1 else 0) ≤ f k + 2 * g k)
    → 2 * size m q ≤ sum_below f m + 2 * sum_below g m
twice_le q f g zero le = omega arith
twice_le q f g (suc m) le = omega (arith, twice_le q f g m (λ k l. le k (omega (arith, l))), le m (omega arith))

-- a set in two parts
parts : (n : ℕ) (set part : ℕ → Bool) → size n (λ v. set v && not (part v)) + size n (λ v. set v && part v)
    ≡ size n set
parts zero set part = refl
parts (suc n) set part = omega (arith, parts n set part, bits (set n) (part n))
  where
    bits : (s p : Bool) → (if s && not p then 1 else 0) + (if s && p then 1 else 0) ≡ (if s then 1 else 0)
    bits true true = omega arith
    bits true false = omega arith
    bits false p = omega arith

class_named : (es : List Edge) (v : ℕ) → class_of es (class_of es v) ≡ class_of es v
class_named es v =
    class_is es (class_of es v) ∙ ap (least_chained (fingers_of es)) (class_is es v)
    ∙ chained_class (fingers_of es) (least_chained (fingers_of es) v) v (least_is_chained (fingers_of es) v)
    ∙ sym (class_is es v)

module _ (n : ℕ) (r : Row) (pool : ℕ → Bool) (edges filled graph : List Edge) (halves : List FingerEnds)
    (have : HavePools pool halves) (fills : AreFilled r halves filled) (same : IsPermutation (edges ++ filled) graph)
    (below : AreBelow n graph) where
  abbrev joins : List Edge
  joins = links n r pool edges halves

  abbrev place : ℕ → ℕ
  place = place_of n r pool

  -- the class of a node's place
  abbrev label : ℕ → ℕ
  label v = class_of joins (place v)

  abbrev is_even : ℕ → Bool
  is_even = is_even_class n r pool edges halves

  abbrev ends_at : ℕ → ℕ
  ends_at = place_ends n r pool edges halves

  all_below : AreBelow n (edges ++ filled)
  all_below =
      All-permutation (λ (e : Edge). (e.a.0 < n) × (e.b.0 < n)) graph (edges ++ filled)
      (IsPermutation-sym (edges ++ filled) graph same) below

  filled_below : AreBelow n filled
  filled_below =
      all_from_contains (λ (e : Edge). (e.a.0 < n) × (e.b.0 < n)) filled
      (λ e k. All-contains (λ (d : Edge). (d.a.0 < n) × (d.b.0 < n)) (edges ++ filled) e all_below
      (Contains-append_right edges filled e k))

  in_graph : (e : Edge) → Contains (edges ++ filled) e → Contains graph e
  in_graph e k = Contains-permutation (edges ++ filled) graph e same k

  alike_link : (d : Edge) → Contains joins d → class_of joins d.a.0 ≡ class_of joins d.b.0
  alike_link d k = All-contains (λ (e : Edge). class_of joins e.a.0 ≡ class_of joins e.b.0) joins d (class_labels joins)
      k

  edge_link : (e : Edge) → Contains edges e → Contains joins (edge_placed n r pool e)
  edge_link e k =
      Contains-append_left (map (edge_placed n r pool) edges) (map (half_placed n) halves) (edge_placed n r pool e)
      (contains_map (edge_placed n r pool) edges e k)

  half_link : (half : FingerEnds) → Contains halves half → Contains joins (half_placed n half)
  half_link half k =
      Contains-append_right (map (edge_placed n r pool) edges) (map (half_placed n) halves) (half_placed n half)
      (contains_map (half_placed n) halves half k)

  -- a filled half edge joins the places of its half edge
  record Between (half : FingerEnds) (e : Edge) : Type 0 where
    pub ends : ((place e.a.0 ≡ n + half.lo) × (place e.b.0 ≡ n + half.hi))
        ⊎ ((place e.a.0 ≡ n + half.hi) × (place e.b.0 ≡ n + half.lo))

  between : (half : FingerEnds) (e : Edge) → (pool half.lo ≡ true) × (pool half.hi ≡ true) → Fills r half e
      → Between half e
  between half e pools (inl (a, b)) =
      let p : (pool (net_in r e.a.0) ≡ true) × (pool (net_in r e.b.0) ≡ true) =
      ends_pooled n r pool half e pools (inl (a, b)) in
      record {
        ends = inl (
          placed_in n r pool e.a.0 p.0 ∙ ap (λ x. n + x) a,
          placed_in n r pool e.b.0 p.1 ∙ ap (λ x. n + x) b,
        );
      }
  between half e pools (inr (a, b)) =
      let p : (pool (net_in r e.a.0) ≡ true) × (pool (net_in r e.b.0) ≡ true) =
      ends_pooled n r pool half e pools (inr (a, b)) in
      record {
        ends = inr (
          placed_in n r pool e.a.0 p.0 ∙ ap (λ x. n + x) a,
          placed_in n r pool e.b.0 p.1 ∙ ap (λ x. n + x) b,
        );
      }

  alike_filled : (half : FingerEnds) (e : Edge) → Contains halves half → Between half e → label e.a.0 ≡ label e.b.0
  alike_filled half e k b =
      let link : class_of joins (n + half.lo) ≡ class_of joins (n + half.hi) =
      alike_link (half_placed n half) (half_link half k) in
      elim b.ends [
        | inl ends ↦ ap (class_of joins) ends.0 ∙ link ∙ sym (ap (class_of joins) ends.1)
        | inr ends ↦ ap (class_of joins) ends.0 ∙ sym link ∙ sym (ap (class_of joins) ends.1)
      ]

  -- each edge that fills a half edge
  all_filled : (hs : List FingerEnds) (es : List Edge) → ((h : FingerEnds) → Contains hs h → Contains halves h)
      → AreFilled r hs es → HaveLabels label es
  all_filled [] [] inside fit = All-nil (λ (e : Edge). label e.a.0 ≡ label e.b.0)
  all_filled [] (e ∷ es) inside fit = absurd fit
  all_filled (h ∷ hs) [] inside fit = absurd fit
  all_filled (h ∷ hs) (e ∷ es) inside fit =
      let there : Contains halves h = inside h (contains_here h hs) in
      let pools : (pool h.lo ≡ true) × (pool h.hi ≡ true) =
      All-contains (λ (half : FingerEnds). (pool half.lo ≡ true) × (pool half.hi ≡ true)) halves h have there in
      All-cons (λ (d : Edge). label d.a.0 ≡ label d.b.0) e es (alike_filled h e there (between h e pools fit.0))
      (all_filled hs es (λ x k. inside x (contains_there h hs x k)) fit.1)

  labelled : HaveLabels label graph
  labelled =
      All-permutation (λ (e : Edge). label e.a.0 ≡ label e.b.0) (edges ++ filled) graph same
      (All-append (λ (e : Edge). label e.a.0 ≡ label e.b.0) edges filled
      (all_from_contains (λ (e : Edge). label e.a.0 ≡ label e.b.0) edges
      (λ e k. alike_link (edge_placed n r pool e) (edge_link e k)))
      (all_filled halves filled (λ h k. k) fills))

  -- an edge of a class of places
  record Has (h : ℕ) : Type 0 where
    pub edge : Edge
    pub there : Contains graph edge
    pub is : label edge.a.0 ≡ h

  filled_has : (h : ℕ) (half : FingerEnds) (hs : List FingerEnds) (es : List Edge)
      → ((e : Edge) → Contains es e → Contains filled e) → ((x : FingerEnds) → Contains hs x → Contains halves x)
      → AreFilled r hs es → Contains hs half → class_of joins (n + half.lo) ≡ h → Has h
  filled_has h half [] es in_es in_hs fit k is = absurd (contains_none half k)
  filled_has h half (x ∷ hs) [] in_es in_hs fit k is = absurd fit
  filled_has h half (x ∷ hs) (e ∷ es) in_es in_hs fit k is = elim (contains_cons x hs half k) [
    | inr later ↦ filled_has h half hs es (λ d l. in_es d (contains_there e es d l))
        (λ d l. in_hs d (contains_there x hs d l)) fit.1 later is
    | inl here ↦ found (subst (λ y. class_of joins (n + y.lo) ≡ h) (sym here) is)
  ]
    where
      there : Contains halves x
      there = in_hs x (contains_here x hs)

      in_all : Contains graph e
      in_all = in_graph e (Contains-append_right edges filled e (in_es e (contains_here e es)))

      link : class_of joins (n + x.lo) ≡ class_of joins (n + x.hi)
      link = alike_link (half_placed n x) (half_link x there)

      found : class_of joins (n + x.lo) ≡ h → Has h
      found low =
          let pools : (pool x.lo ≡ true) × (pool x.hi ≡ true) =
          All-contains (λ (y : FingerEnds). (pool y.lo ≡ true) × (pool y.hi ≡ true)) halves x have there in
          let b : Between x e = between x e pools fit.0 in
          record {
            edge = e;
            there = in_all;
            is = elim b.ends [
              | inl ends ↦ ap (class_of joins) ends.0 ∙ low
              | inr ends ↦ ap (class_of joins) ends.0 ∙ sym link ∙ low
            ];
          }

  has : (h : ℕ) → has_edge joins h ≡ true → Has h
  has h e =
      let f : Some' (λ (d : Edge). (class_of joins d.a.0 == h) ≡ true) joins =
      test_finds (λ (d : Edge). class_of joins d.a.0 == h) joins e in
      elim (Contains-append_cases (map (edge_placed n r pool) edges) (map (half_placed n) halves) f.it f.there) [
        | inl by_edge ↦
            let i : Image (edge_placed n r pool) edges f.it = in_map (edge_placed n r pool) edges f.it by_edge in
            record {
              edge = i.of;
              there = in_graph i.of (Contains-append_left edges filled i.of i.listed);
              is = ap (λ (d : Edge). class_of joins d.a.0) i.is ∙ eqb-true (class_of joins f.it.a.0) h f.holds;
            }
        | inr by_half ↦
            let i : Image (half_placed n) halves f.it = in_map (half_placed n) halves f.it by_half in
            filled_has h i.of halves filled (λ d l. l) (λ d l. l) fills i.listed
            (ap (λ (d : Edge). class_of joins d.a.0) i.is ∙ eqb-true (class_of joins f.it.a.0) h f.holds)
      ]

  label_below : (v : ℕ) → v < n → label v < 2 * n
  label_below v within = omega (arith, class_le joins (place v), placed_below n r pool v within)

  -- the odd nodes of classes with ends, and of those without
  abbrev is_open : ℕ → Bool
  is_open v = is_odd graph v && not (is_even (label v))

  abbrev is_closed : ℕ → Bool
  is_closed v = is_odd graph v && is_even (label v)

  place_open : (p : ℕ) → p < 2 * n → ends_at p ≤ size_in n place is_open p
  place_open p within = elim (cases_Bool (is_even (class_of joins p))) [
    | inl even ↦
        let none : size (2 * n) (λ q. (class_of joins q == class_of joins p) && not (ends_at q == 0)) ≡ 0 =
        eqb-true (size (2 * n) (λ q. (class_of joins q == class_of joins p) && not (ends_at q == 0))) 0
        (and_parts (has_edge joins (class_of joins p))
        (size (2 * n) (λ q. (class_of joins q == class_of joins p) && not (ends_at q == 0)) == 0) even).1 in
        let off : ((class_of joins p == class_of joins p) && not (ends_at p == 0)) ≡ false =
        size_zero (2 * n) (λ q. (class_of joins q == class_of joins p) && not (ends_at q == 0)) p none within in
        let zero_there : ends_at p ≡ 0 =
        elim (cases_eq (ends_at p) 0) [
          | inl e ↦ e
          | inr some ↦ absurd (both_ways ((class_of joins p == class_of joins p) && not (ends_at p == 0)) off
              (rw (eq-eqb (class_of joins p) (class_of joins p) refl, ne_eqb (ends_at p) 0 some) refl))
        ] in
        omega (arith, zero_there)
    | inr other ↦
        let alike : size_in n place (is_odd graph) p ≡ size_in n place is_open p =
        size_in_same n place (is_odd graph) is_open p
        (λ v e. still (is_odd graph v) (is_even (label v)) (ap (λ q. is_even (class_of joins q)) e ∙ other)) in
        omega (arith, place_ends_le n r pool edges filled graph halves have fills same filled_below p, alike)
  ]
    where
      still : (o b : Bool) → b ≡ false → o ≡ (o && not b)
      still o true e = absurd cc
      still true false e = refl
      still false false e = refl

  open_le : sum_below ends_at (2 * n) ≤ size n is_open
  open_le = omega (
    arith,
    sum_le ends_at (λ p. size_in n place is_open p) (2 * n) place_open,
    sum_classes (2 * n) n place is_open (placed_below n r pool),
  )

  -- two odd nodes, or a class of edges without any, in each class of places without ends
  even_at : (h : ℕ) → is_even h ≡ true → 2 ≤ size_in n label is_closed h
      + 2 * size_in n label (graphs.is_even_class n graph) h
  even_at h even = elim (cases_eq (size n (λ v. (class_of graph v == c) && is_odd graph v)) 0) [
    | inl none ↦
        let one : 1 ≤ size_in n label (graphs.is_even_class n graph) h =
        one_at_least n c (λ v. (label v == h) && graphs.is_even_class n graph v) c_below
        (and_from (label c == h) (graphs.is_even_class n graph c) (eq-eqb (label c) h c_label)
        (and_from (has_edge graph c) (size n (λ v. (class_of graph v == c) && is_odd graph v) == 0)
        (test_there (λ (e : Edge). class_of graph e.a.0 == c) graph it.edge it.there (eq-eqb c c refl))
        (eq-eqb (size n (λ v. (class_of graph v == c) && is_odd graph v)) 0 none))) in
        omega (arith, one)
    | inr some ↦
        let many : size n (λ v. (class_of graph v == c) && is_odd graph v) % 2 ≡ 0 =
        even_many n (class_of graph) graph c below (class_labels graph) in
        let inside : size n (λ v. (class_of graph v == c) && is_odd graph v) ≤ size_in n label is_closed h =
        size_mono n (λ v. (class_of graph v == c) && is_odd graph v) (λ v. (label v == h) && is_closed v)
        (λ v l e. of_class v (and_parts (class_of graph v == c) (is_odd graph v) e)) in
        omega (arith, some, many, inside)
  ]
    where
      it : Has h
      it = has h (and_parts (has_edge joins h)
          (size (2 * n) (λ q. (class_of joins q == h) && not (ends_at q == 0)) == 0) even).0

      c : ℕ
      c = class_of graph it.edge.a.0

      c_below : c < n
      c_below = omega (
        arith,
        class_le graph it.edge.a.0,
        (All-contains (λ (e : Edge). (e.a.0 < n) × (e.b.0 < n)) graph it.edge below it.there).0,
      )

      one_label : (v : ℕ) → class_of graph v ≡ c → label v ≡ h
      one_label v e = one_class graph v it.edge.a.0 e label labelled ∙ it.is

      c_label : label c ≡ h
      c_label = one_label c (class_named graph it.edge.a.0)

      of_class : (v : ℕ) → ((class_of graph v == c) ≡ true) × (is_odd graph v ≡ true)
          → ((label v == h) && is_closed v) ≡ true
      of_class v (here, odd) =
          let is : label v ≡ h = one_label v (eqb-true (class_of graph v) c here) in
          and_from (label v == h) (is_closed v) (eq-eqb (label v) h is)
          (and_from (is_odd graph v) (is_even (label v)) odd (ap is_even is ∙ even))

  even_le : 2 * size (2 * n) is_even ≤ size n is_closed + 2 * size n (graphs.is_even_class n graph)
  even_le = omega (
    arith,
    twice_le is_even (λ h. size_in n label is_closed h)
        (λ h. size_in n label (graphs.is_even_class n graph) h) (2 * n) (λ h l. each h),
    sum_classes (2 * n) n label is_closed label_below,
    sum_classes (2 * n) n label (graphs.is_even_class n graph) label_below,
  )
    where
      each : (h : ℕ) → 2 * (if is_even h then 1 else 0) ≤ size_in n label is_closed h
          + 2 * size_in n label (graphs.is_even_class n graph) h
      each h = by (is_even h) refl
        where
          by : (b : Bool) → is_even h ≡ b → 2 * (if b then 1 else 0) ≤ size_in n label is_closed h
              + 2 * size_in n label (graphs.is_even_class n graph) h
          by true e = even_at h e
          by false e = omega arith

  pub half_ends_le : half_ends n r pool edges halves ≤ ends_of n graph
  unfolding half_ends ends_of
  half_ends_le = omega (arith, open_le, even_le, parts n (is_odd graph) (λ v. is_even (label v)))
