-- The ends that are certain once no place is open are those of edges and half edges, in whatever order.
use Rattle.std.proofs.Common.{ℕ, ◌≡◌, ◌+◌, ◌-◌, ◌*◌, ◌%◌, ◌==◌, ◌||◌, ◌&&◌, Bool, not, if◌then◌else◌, ltb, List, []}
use Rattle.std.proofs.Common.{◌∷◌, ◌++◌, map, refl, sym, ap, subst, arith, ◌∙◌, IsPermutation}
use Rattle.std.specs.List.{list_any}
use Rattle.std.proofs.lemmas.List.{map-append}
use Rattle.std.proofs.lemmas.List.Sorted.{IsPermutation-append, IsPermutation-append_comm}
use Rattle.std.proofs.lemmas.List.Sorted.{IsPermutation-append_right, IsPermutation-map, IsPermutation-middle}
use Rattle.std.proofs.lemmas.List.Sorted.{IsPermutation-refl, IsPermutation-trans, list_any-IsPermutation}
use Rattle.std.proofs.lemmas.List.Sorted.{sum_by-IsPermutation}
use Rattle.cell_num.specs.Fingers.{sum_below}
use Rattle.cell_num.specs.declared.finger.Finger.{Finger}
use Rattle.cell_num.specs.declared.finger.Row.{Row}
use Rattle.row_trails.specs.Trails.{size, size_same}
use Rattle.row_state.specs.Chained.{least_permuted}
use Rattle.row_state.specs.Component.{has_finger}
use Rattle.row_state.specs.Gates.{sum_below_same}
use Rattle.trail_state.specs.declared.edge.Edge.{Edge}
use Rattle.trail_state.specs.declared.edge.FingerEnds.{FingerEnds}
use Rattle.trail_state.proofs.Counted as states
use Rattle.trail_state.proofs.Follows.{added}
use Rattle.trail_state.proofs.Links as nodes
use Rattle.trail_state.proofs.Links.{finger_of, fingers_of}
use Rattle.open_gates.specs.Merged.{net_in}
use Rattle.trail_check.specs.Graph.{class_of, has_edge, is_odd}
use Rattle.trail_check.proofs.Edges.{class_is, meets}
use Rattle.trail_halves.specs.Halves.{edge_placed, free, half_ends, half_placed, is_even_class, links, place_ends}
use Rattle.trail_halves.specs.Halves.{short, waiting}
use Rattle.trail_halves.proofs.Opened.{crossed}
use Rattle.trail_pools.proofs.Counted.{is_closed_at, settled, shut_ends}

-- ---- orders

added_permutes : (c es : List Edge) → IsPermutation (added es c) (c ++ es)
added_permutes [] es = IsPermutation-refl es
added_permutes (e ∷ c) es =
    IsPermutation-trans (added (e ∷ es) c) (c ++ e ∷ es) (e ∷ (c ++ es)) (added_permutes c (e ∷ es))
    (IsPermutation-middle c e es)

module _ (n : ℕ) (r : Row) (pool : ℕ → Bool) where
  abbrev edges_at : List Edge → List Edge
  edges_at es = map (edge_placed n r pool) es

  abbrev halves_at : List FingerEnds → List Edge
  halves_at hs = map (half_placed n) hs

  links_more : (es ds : List Edge) (hs ks : List FingerEnds)
      → IsPermutation (links n r pool es hs ++ links n r pool ds ks) (links n r pool (es ++ ds) (hs ++ ks))
  links_more es ds hs ks =
      subst (IsPermutation (links n r pool es hs ++ links n r pool ds ks)) (sym
      (ap (λ l. l ++ halves_at (hs ++ ks)) (map-append (edge_placed n r pool) es ds)
      ∙ ap (λ l. (edges_at es ++ edges_at ds) ++ l) (map-append (half_placed n) hs ks)))
      (crossed (edges_at es) (halves_at hs) (edges_at ds) (halves_at ks))

  -- the edges so far with those of a choice
  pub links_added : (all es ds : List Edge) (hs ks : List FingerEnds) → IsPermutation all (links n r pool es hs)
      → IsPermutation (added all (links n r pool ds ks)) (links n r pool (es ++ ds) (hs ++ ks))
  links_added all es ds hs ks same =
      let mine : List Edge = links n r pool es hs in
      let more : List Edge = links n r pool ds ks in
      IsPermutation-trans (added all more) (more ++ all) (links n r pool (es ++ ds) (hs ++ ks))
      (added_permutes more all)
      (IsPermutation-trans (more ++ all) (more ++ mine) (links n r pool (es ++ ds) (hs ++ ks))
      (IsPermutation-append_right more all mine same)
      (IsPermutation-trans (more ++ mine) (mine ++ more) (links n r pool (es ++ ds) (hs ++ ks))
      (IsPermutation-append_comm more mine) (links_more es ds hs ks)))

  links_same : (es ds : List Edge) (hs ks : List FingerEnds) → IsPermutation es ds → IsPermutation hs ks
      → IsPermutation (links n r pool es hs) (links n r pool ds ks)
  links_same es ds hs ks same_edges same_halves =
      IsPermutation-append (edges_at es) (edges_at ds) (halves_at hs) (halves_at ks)
      (IsPermutation-map (edge_placed n r pool) es ds same_edges)
      (IsPermutation-map (half_placed n) hs ks same_halves)

  -- ---- classes

  has_is : (c d : ℕ → ℕ) (es : List Edge) (h : ℕ) → ((v : ℕ) → c v ≡ d v)
      → has_finger c (fingers_of es) h ≡ list_any (λ (e : Edge). d e.a.0 == h) es
  has_is c d [] h same = refl
  has_is c d (e ∷ es) h same =
      ap (λ v. (v == h) || has_finger c (fingers_of es) h) (same e.a.0)
      ∙ ap (λ b. (d e.a.0 == h) || b) (has_is c d es h same)

  module _ (all es : List Edge) (hs : List FingerEnds) (same : IsPermutation all (links n r pool es hs)) where
    abbrev joins : List Edge
    joins = links n r pool es hs

    same_fingers : IsPermutation (fingers_of all) (fingers_of joins)
    same_fingers = IsPermutation-map finger_of all joins same

    class_same : (v : ℕ) → nodes.class_of all v ≡ class_of joins v
    class_same v = least_permuted (fingers_of all) (fingers_of joins) v same_fingers ∙ sym (class_is joins v)

    closed_is : (ends : ℕ → ℕ) (h : ℕ) → is_closed_at (2 * n) ends all [] h
        ≡ (has_edge joins h && (size (2 * n) (λ p. (class_of joins p == h) && not (ends p == 0)) == 0))
    closed_is ends h =
        let edges : states.has_edge all h ≡ has_edge joins h =
        list_any-IsPermutation (λ (f : Finger). nodes.class_of all f.lo.0 == h) (fingers_of all) (fingers_of joins)
        same_fingers ∙ has_is (nodes.class_of all) (class_of joins) joins h class_same in
        let sizes : size (2 * n) (λ p. (nodes.class_of all p == h) && not (ends p == 0))
        ≡ size (2 * n) (λ p. (class_of joins p == h) && not (ends p == 0)) =
        size_same (2 * n) (λ p. (nodes.class_of all p == h) && not (ends p == 0))
        (λ p. (class_of joins p == h) && not (ends p == 0))
        (λ p l. ap (λ k. (k == h) && not (ends p == 0)) (class_same p)) in
        ap (λ b. b && (size (2 * n) (λ p. (nodes.class_of all p == h) && not (ends p == 0)) == 0)) edges
        ∙ ap (λ k. has_edge joins h && (k == 0)) sizes

    pub settled_is : settled (2 * n) (place_ends n r pool es hs) all [] ≡ half_ends n r pool es hs
    unfolding half_ends
    settled_is =
        let ends : ℕ → ℕ = place_ends n r pool es hs in
        let sums : sum_below (shut_ends (2 * n) ends []) (2 * n) ≡ sum_below ends (2 * n) =
        sum_below_same (shut_ends (2 * n) ends []) ends (2 * n) (λ p. refl) in
        let classes : size (2 * n) (is_closed_at (2 * n) ends all []) ≡ size (2 * n) (is_even_class n r pool es hs) =
        size_same (2 * n) (is_closed_at (2 * n) ends all []) (is_even_class n r pool es hs)
        (λ h l. closed_is ends h) in
        omega (arith, sums, classes)

  -- ---- the same edges and half edges, in another order

  module _ (es ds : List Edge) (hs ks : List FingerEnds) (same_edges : IsPermutation es ds)
      (same_halves : IsPermutation hs ks) where
    odd_same : (v : ℕ) → is_odd es v ≡ is_odd ds v
    odd_same v = ap (λ k. k % 2 == 1) (sym (sum_by-IsPermutation (meets v) es ds same_edges))

    free_same : (net : ℕ) → free hs net ≡ free ks net
    free_same net =
        sym (sum_by-IsPermutation
        (λ (half : FingerEnds). (if half.lo == net then 1 else 0) + (if half.hi == net then 1 else 0)) hs ks
        same_halves)

    waiting_same : (net : ℕ) → waiting n r es net ≡ waiting n r ds net
    waiting_same net =
        size_same n (λ v. (net_in r v == net) && is_odd es v) (λ v. (net_in r v == net) && is_odd ds v)
        (λ v l. ap (λ b. (net_in r v == net) && b) (odd_same v))

    ends_same : (p : ℕ) → place_ends n r pool es hs p ≡ place_ends n r pool ds ks p
    ends_same p = by (ltb p n) (pool (p - n))
      where
        pools : (b : Bool) → (if b then short (waiting n r es (p - n)) (free hs (p - n)) else 0)
            ≡ (if b then short (waiting n r ds (p - n)) (free ks (p - n)) else 0)
        pools b =
            ap (λ k. if b then short k (free hs (p - n)) else 0) (waiting_same (p - n))
            ∙ ap (λ k. if b then short (waiting n r ds (p - n)) k else 0) (free_same (p - n))

        by : (b c : Bool)
            → (if b then if not (pool (net_in r p)) && is_odd es p then 1 else 0
            else if c then short (waiting n r es (p - n)) (free hs (p - n)) else 0)
            ≡ (if b then if not (pool (net_in r p)) && is_odd ds p then 1 else 0
            else if c then short (waiting n r ds (p - n)) (free ks (p - n)) else 0)
        by b c =
            ap (λ k. if b then if not (pool (net_in r p)) && k then 1 else 0
            else if c then short (waiting n r es (p - n)) (free hs (p - n)) else 0) (odd_same p)
            ∙ ap (λ k. if b then if not (pool (net_in r p)) && is_odd ds p then 1 else 0 else k) (pools c)

    pub half_ends_same : half_ends n r pool es hs ≡ half_ends n r pool ds ks
    half_ends_same =
        let one : ℕ → ℕ = place_ends n r pool es hs in
        let two : ℕ → ℕ = place_ends n r pool ds ks in
        let all : List Edge = links n r pool es hs in
        let sums : sum_below (shut_ends (2 * n) one []) (2 * n) ≡ sum_below (shut_ends (2 * n) two []) (2 * n) =
        sum_below_same (shut_ends (2 * n) one []) (shut_ends (2 * n) two []) (2 * n) ends_same in
        let classes : size (2 * n) (is_closed_at (2 * n) one all []) ≡ size (2 * n) (is_closed_at (2 * n) two all []) =
        size_same (2 * n) (is_closed_at (2 * n) one all []) (is_closed_at (2 * n) two all [])
        (λ h l. ap (λ k. states.has_edge all h && (k == 0))
        (size_same (2 * n) (λ p. (nodes.class_of all p == h) && not (one p == 0))
        (λ p. (nodes.class_of all p == h) && not (two p == 0))
        (λ p l. ap (λ k. (nodes.class_of all p == h) && not (k == 0)) (ends_same p)))) in
        sym (settled_is all es hs (IsPermutation-refl all)) ∙ omega (arith, sums, classes)
        ∙ settled_is all ds ks (links_same es ds hs ks same_edges same_halves)
