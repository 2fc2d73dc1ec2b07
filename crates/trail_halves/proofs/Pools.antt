-- Each place has no more ends by edges and half edges than odd nodes, however the half edges are filled.
use Rattle.std.proofs.Common.{ℕ, ◌≡◌, ◌+◌, ◌-◌, ◌*◌, ◌%◌, ◌<◌, ◌≤◌, ◌==◌, ◌&&◌, Bool, true, false, not, if◌then◌else◌}
use Rattle.std.proofs.Common.{leb, ltb, List, [], ◌∷◌, ◌++◌, refl, sym, ap, arith, ◌∙◌, inl, inr, IsPermutation, sum_by}
use Rattle.std.proofs.lemmas.Bool.{both_ways, cases_Bool, cases_eq, eq-eqb, leb-false}
use Rattle.std.proofs.lemmas.Bool.{ltb-false, ltb-true, ne_eqb}
use Rattle.std.proofs.lemmas.List.Elements.{All-head, All-tail}
use Rattle.std.proofs.lemmas.List.Sorted.{sum_by-IsPermutation}
use Rattle.std.proofs.lemmas.List.Sums.{sum_by-append, sum_by-cons}
use Rattle.cell_num.specs.declared.finger.Row.{Row}
use Rattle.cell_num.specs.declared.finger.Row.TheVariants.{P, N}
use Rattle.row_trails.specs.Counts.{size_in}
use Rattle.row_trails.specs.Trails.{size, size_same}
use Rattle.trail_state.specs.declared.edge.Edge.{Edge}
use Rattle.trail_state.specs.declared.edge.FingerEnds.{FingerEnds}
use Rattle.trail_state.proofs.Sizes.{size_zero}
use Rattle.open_gates.specs.Merged.{net_in}
use Rattle.trail_check.specs.Graph.{degree, is_odd}
use Rattle.trail_check.proofs.Edges.{meets}
use Rattle.trail_halves.specs.Halves.{AreBelow, AreFilled, Fills, HavePools, free, node_ends, place_ends}
use Rattle.trail_halves.specs.Halves.{place_of, pool_ends, short, waiting}
use Rattle.trail_halves.proofs.Turning.{Turned, edges_turn, ends_in, odd_in}

pub net_le : (r : Row) (v : ℕ) → net_in r v ≤ v
net_le P v = omega arith
net_le N v = omega arith

-- so many stay odd
short_le : (odd ends after : ℕ) → Turned odd ends after → short odd ends ≤ after
short_le odd ends after h = by (leb ends odd) refl
  where
    by : (b : Bool) → leb ends odd ≡ b → (if b then odd - ends else (ends - odd) % 2) ≤ after
    by true le = omega (arith, h.least)
    by false le = omega (arith, h.parity, leb-false ends odd le)

pub one_at_least : (n v : ℕ) (set : ℕ → Bool) → v < n → set v ≡ true → 1 ≤ size n set
one_at_least n v set within there =
    elim (cases_eq (size n set) 0) [
      | inl none ↦ absurd (both_ways (set v) (size_zero n set v none within) there)
      | inr some ↦ omega (arith, some)
    ]

pub zero_le : (a b : ℕ) → a ≡ 0 → a ≤ b
zero_le a b e = omega (arith, e)

module _ (n : ℕ) (r : Row) (pool : ℕ → Bool) where
  pub placed_in : (v : ℕ) → pool (net_in r v) ≡ true → place_of n r pool v ≡ n + net_in r v
  placed_in v e = rw e refl

  pub placed_out : (v : ℕ) → pool (net_in r v) ≡ false → place_of n r pool v ≡ v
  placed_out v e = rw e refl

  pub placed_below : (v : ℕ) → v < n → place_of n r pool v < 2 * n
  placed_below v within = elim (cases_Bool (pool (net_in r v))) [
    | inl e ↦ omega (arith, within, placed_in v e, net_le r v)
    | inr e ↦ omega (arith, within, placed_out v e)
  ]

  -- the nodes of a pool are those at its place
  pub at_pool : (net v : ℕ) → pool net ≡ true → v < n → (net_in r v == net) ≡ (place_of n r pool v == n + net)
  at_pool net v is within = elim (cases_eq (net_in r v) net) [
    | inl e ↦
        let there : place_of n r pool v ≡ n + net =
        placed_in v (ap pool e ∙ is) ∙ ap (λ x. n + x) e in
        eq-eqb (net_in r v) net e ∙ sym (eq-eqb (place_of n r pool v) (n + net) there)
    | inr other ↦ ne_eqb (net_in r v) net other ∙ sym (ne_eqb (place_of n r pool v) (n + net) (λ e. elim
        (cases_Bool (pool (net_in r v))) [
          | inl p ↦ other (omega (arith, e, placed_in v p))
          | inr p ↦ omega (arith, e, within, placed_out v p)
        ]))
  ]

  -- a filled half edge ends in two pools
  pub ends_pooled : (half : FingerEnds) (e : Edge) → (pool half.lo ≡ true) × (pool half.hi ≡ true) → Fills r half e
      → (pool (net_in r e.a.0) ≡ true) × (pool (net_in r e.b.0) ≡ true)
  ends_pooled half e have (inl (a, b)) = (ap pool a ∙ have.0, ap pool b ∙ have.1)
  ends_pooled half e have (inr (a, b)) = (ap pool a ∙ have.1, ap pool b ∙ have.0)

  -- so it has no end at a node of no pool
  unmet : (v : ℕ) (halves : List FingerEnds) (filled : List Edge) → HavePools pool halves → AreFilled r halves filled
      → pool (net_in r v) ≡ false → degree filled v ≡ 0
  unmet v [] [] have fills out = refl
  unmet v [] (e ∷ es) have fills out = absurd fills
  unmet v (half ∷ halves) [] have fills out = absurd fills
  unmet v (half ∷ halves) (e ∷ es) have fills out =
      let ends : (pool (net_in r e.a.0) ≡ true) × (pool (net_in r e.b.0) ≡ true) =
      ends_pooled half e
      (All-head (λ (h : FingerEnds). (pool h.lo ≡ true) × (pool h.hi ≡ true)) half halves have) fills.0 in
      let a : ◌≡◌ {A = ℕ} (if v == e.a.0 then 1 else 0) 0 = none e.a.0 ends.0 in
      let b : ◌≡◌ {A = ℕ} (if v == e.b.0 then 1 else 0) 0 = none e.b.0 ends.1 in
      let rest : degree es v ≡ 0 =
      unmet v halves es (All-tail (λ (h : FingerEnds). (pool h.lo ≡ true) × (pool h.hi ≡ true)) half halves have)
      fills.1 out in
      omega (arith, a, b, rest, sum_by-cons (meets v) e es)
    where
      none : (w : ℕ) → pool (net_in r w) ≡ true → ◌≡◌ {A = ℕ} (if v == w then 1 else 0) 0
      none w there =
          rw (ne_eqb v w (λ is. both_ways (pool (net_in r v)) out (ap (λ x. pool (net_in r x)) is ∙ there))) refl

  -- the ends of filled half edges at a net are its free ends
  free_are : (net : ℕ) (halves : List FingerEnds) (filled : List Edge) → AreFilled r halves filled
      → sum_by (ends_in (λ v. net_in r v == net)) filled ≡ free halves net
  free_are net [] [] fills = refl
  free_are net [] (e ∷ es) fills = absurd fills
  free_are net (half ∷ halves) [] fills = absurd fills
  free_are net (half ∷ halves) (e ∷ es) fills = omega (
    arith,
    one fills.0,
    free_are net halves es fills.1,
    sum_by-cons (ends_in (λ v. net_in r v == net)) e es,
    sum_by-cons
        (λ (h : FingerEnds). (if h.lo == net then 1 else 0) + (if h.hi == net then 1 else 0)) half halves,
  )
    where
      bit : ℕ → ℕ
      bit x = if x == net then 1 else 0

      one : Fills r half e → ends_in (λ v. net_in r v == net) e
          ≡ (if half.lo == net then 1 else 0) + (if half.hi == net then 1 else 0)
      one (inl (a, b)) =
          ap (λ x. (if x == net then 1 else 0) + (if net_in r e.b.0 == net then 1 else 0)) a
          ∙ ap (λ x. (if half.lo == net then 1 else 0) + (if x == net then 1 else 0)) b
      one (inr (a, b)) =
          let x : ◌≡◌ {A = ℕ} (if net_in r e.a.0 == net then 1 else 0) (if half.hi == net then 1 else 0) =
          ap (λ x. if x == net then 1 else 0) a in
          let y : ◌≡◌ {A = ℕ} (if net_in r e.b.0 == net then 1 else 0) (if half.lo == net then 1 else 0) =
          ap (λ x. if x == net then 1 else 0) b in
          omega (arith, x, y)

  module _ (edges filled graph : List Edge) (halves : List FingerEnds) (have : HavePools pool halves)
      (fills : AreFilled r halves filled) (same : IsPermutation (edges ++ filled) graph)
      (filled_below : AreBelow n filled) where
    degree_is : (v : ℕ) → degree graph v ≡ degree edges v + degree filled v
    degree_is v = sum_by-IsPermutation (meets v) (edges ++ filled) graph same ∙ sum_by-append (meets v) edges filled

    pool_le : (net : ℕ) → pool net ≡ true → short (waiting n r edges net) (free halves net)
        ≤ size_in n (place_of n r pool) (is_odd graph) (n + net)
    pool_le net is =
        let turned : Turned (waiting n r edges net) (sum_by (ends_in (λ v. net_in r v == net)) filled)
        (odd_in n (λ v. net_in r v == net) (λ v. degree edges v + degree filled v)) =
        edges_turn n (λ v. net_in r v == net) (degree edges) filled filled_below in
        let by_ends : Turned (waiting n r edges net) (free halves net)
        (odd_in n (λ v. net_in r v == net) (λ v. degree edges v + degree filled v)) =
        record {
          least = omega (arith, turned.least, free_are net halves filled fills);
          parity = omega (arith, turned.parity, free_are net halves filled fills);
        } in
        let there : odd_in n (λ v. net_in r v == net) (λ v. degree edges v + degree filled v)
        ≡ size_in n (place_of n r pool) (is_odd graph) (n + net) =
        size_same n (λ v. (net_in r v == net) && ((degree edges v + degree filled v) % 2 == 1))
        (λ v. (place_of n r pool v == n + net) && is_odd graph v)
        (λ v within. ap (λ b. b && ((degree edges v + degree filled v) % 2 == 1)) (at_pool net v is within)
        ∙ ap (λ d. (place_of n r pool v == n + net) && (d % 2 == 1)) (sym (degree_is v))) in
        let low : short (waiting n r edges net) (free halves net)
        ≤ odd_in n (λ v. net_in r v == net) (λ v. degree edges v + degree filled v) =
        short_le (waiting n r edges net) (free halves net)
        (odd_in n (λ v. net_in r v == net) (λ v. degree edges v + degree filled v)) by_ends in
        omega (arith, low, there)

    pool_ends_le : (net : ℕ) → pool_ends n r pool edges halves net
        ≤ size_in n (place_of n r pool) (is_odd graph) (n + net)
    pool_ends_le net = by (pool net) refl
      where
        by : (b : Bool) → pool net ≡ b → (if b then short (waiting n r edges net) (free halves net) else 0)
            ≤ size_in n (place_of n r pool) (is_odd graph) (n + net)
        by true is = pool_le net is
        by false out = omega arith

    node_ends_le : (v : ℕ) → v < n → node_ends r pool edges v ≤ size_in n (place_of n r pool) (is_odd graph) v
    node_ends_le v within = by (pool (net_in r v)) refl
      where
        odd : (b : Bool) → is_odd edges v ≡ b → pool (net_in r v) ≡ false → (if true && b then 1 else 0)
            ≤ size_in n (place_of n r pool) (is_odd graph) v
        odd false e out = omega arith
        odd true e out =
            let at : (place_of n r pool v == v) ≡ true = eq-eqb (place_of n r pool v) v (placed_out v out) in
            let degrees : degree graph v ≡ degree edges v =
            omega (arith, degree_is v, unmet v halves filled have fills out) in
            let still : is_odd graph v ≡ true = ap (λ d. d % 2 == 1) degrees ∙ e in
            one_at_least n v (λ u. (place_of n r pool u == v) && is_odd graph u) within (rw (at, still) refl)

        by : (b : Bool) → pool (net_in r v) ≡ b → (if not b && is_odd edges v then 1 else 0)
            ≤ size_in n (place_of n r pool) (is_odd graph) v
        by true there = omega arith
        by false out = odd (is_odd edges v) refl out

    pub place_ends_le : (p : ℕ) → place_ends n r pool edges halves p
        ≤ size_in n (place_of n r pool) (is_odd graph) p
    place_ends_le p = by (ltb p n) refl
      where
        by : (b : Bool) → ltb p n ≡ b
            → (if b then node_ends r pool edges p else pool_ends n r pool edges halves (p - n))
            ≤ size_in n (place_of n r pool) (is_odd graph) p
        by true low = node_ends_le p (ltb-true p n low)
        by false high =
            let is : n + (p - n) ≡ p = omega (arith, ltb-false p n high) in
            let le : pool_ends n r pool edges halves (p - n)
            ≤ size_in n (place_of n r pool) (is_odd graph) (n + (p - n)) = pool_ends_le (p - n) in
            let moved : size_in n (place_of n r pool) (is_odd graph) (n + (p - n))
            ≡ size_in n (place_of n r pool) (is_odd graph) p =
            ap (size_in n (place_of n r pool) (is_odd graph)) is in
            omega (arith, le, moved)
