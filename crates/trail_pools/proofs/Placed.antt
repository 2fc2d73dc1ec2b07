-- How often edges between places meet a node in no pool, and a pool.
use Rattle.std.proofs.Common.{ℕ, ◌≡◌, ◌≢◌, ◌+◌, ◌%◌, ◌<◌, ◌==◌, Bool, true, false, not, if◌then◌else◌, List}
use Rattle.std.proofs.Common.{[], ◌∷◌, ◌++◌, map, refl, sym, ap, arith, ◌∙◌, inl, inr, ◌&&◌, IsPermutation, sum_by}
use Rattle.std.proofs.lemmas.Bool.{both_ways, cases_Bool, cases_eq, eq-eqb, ne_eqb}
use Rattle.std.proofs.lemmas.List.Elements.{All-head, All-tail}
use Rattle.std.proofs.lemmas.List.Sorted.{sum_by-IsPermutation}
use Rattle.std.proofs.lemmas.List.Sums.{sum_by-append, sum_by-cons}
use Rattle.cell_num.specs.declared.finger.Row.{Row}
use Rattle.row_trails.specs.Trails.{size_none, size_same}
use Rattle.row_state.specs.Parity.{parity}
use Rattle.trail_state.specs.declared.edge.Edge.{Edge}
use Rattle.trail_state.specs.declared.edge.FingerEnds.{FingerEnds}
use Rattle.trail_state.specs.Places.{differ}
use Rattle.trail_state.proofs.Links.{odd_at}
use Rattle.open_gates.specs.Merged.{net_in}
use Rattle.trail_check.specs.Graph.{degree, is_odd}
use Rattle.trail_check.proofs.Counts.{degree_is, parity_is}
use Rattle.trail_check.proofs.Edges.{meets}
use Rattle.trail_halves.specs.Halves.{AreBelow, edge_placed, free, half_placed, links, place_of, waiting}
use Rattle.trail_halves.proofs.Pools as pools
use Rattle.trail_halves.proofs.Pools.{placed_in, placed_out}
use Rattle.trail_halves.proofs.Turning.{Turned, edges_turn, ends_in, is_odd_in, odd_in}

abbrev bit : Bool → ℕ
bit b = if b then 1 else 0

pub eq_turned : (a b : ℕ) → (a == b) ≡ (b == a)
eq_turned a b = elim (cases_eq a b) [
  | inl e ↦ eq-eqb a b e ∙ sym (eq-eqb b a (sym e))
  | inr other ↦ ne_eqb a b other ∙ sym (ne_eqb b a (λ e. other (sym e)))
]

-- ---- odd numbers

-- the odd places of edges as fingers, in whatever order
pub odd_is : (es ds : List Edge) (v : ℕ) → IsPermutation es ds → odd_at es v ≡ is_odd ds v
odd_is es ds v same =
    ap parity (sym (degree_is es v)) ∙ sym (parity_is (degree es v))
    ∙ ap (λ k. k % 2 == 1) (sym (sum_by-IsPermutation (meets v) es ds same))

pub parity_sum : (a b : ℕ) → ((a + b) % 2 == 1) ≡ differ (a % 2 == 1) (b % 2 == 1)
parity_sum a b = elim (cases_eq (a % 2) 1) [
  | inl x ↦ sym (ap (λ p. differ p (b % 2 == 1)) (eq-eqb (a % 2) 1 x) ∙ odd_first x)
  | inr x ↦ sym (ap (λ p. differ p (b % 2 == 1)) (ne_eqb (a % 2) 1 x) ∙ even_first x)
]
  where
    odd_first : a % 2 ≡ 1 → not (b % 2 == 1) ≡ ((a + b) % 2 == 1)
    odd_first x = elim (cases_eq (b % 2) 1) [
      | inl y ↦ ap not (eq-eqb (b % 2) 1 y) ∙ sym (ne_eqb ((a + b) % 2) 1 (λ e. omega (arith, x, y, e)))
      | inr y ↦
          let one : (a + b) % 2 ≡ 1 = omega (arith, x, y) in
          ap not (ne_eqb (b % 2) 1 y) ∙ sym (eq-eqb ((a + b) % 2) 1 one)
    ]

    even_first : a % 2 ≢ 1 → (b % 2 == 1) ≡ ((a + b) % 2 == 1)
    even_first x = let same : b % 2 ≡ (a + b) % 2 = omega (arith, x) in ap (λ k. k == 1) same

pub odd_append : (es ds : List Edge) (v : ℕ) → is_odd (es ++ ds) v ≡ differ (is_odd es v) (is_odd ds v)
odd_append es ds v =
    ap (λ k. k % 2 == 1) (sum_by-append (meets v) es ds) ∙ parity_sum (degree es v) (degree ds v)

-- ---- places

module _ (n : ℕ) (r : Row) (pool : ℕ → Bool) where
  at_node : (p v : ℕ) → p < n → pool (net_in r p) ≡ false → (p == place_of n r pool v) ≡ (p == v)
  at_node p v within out = elim (cases_Bool (pool (net_in r v))) [
    | inl is ↦
        ne_eqb p (place_of n r pool v) (λ e. omega (arith, e, placed_in n r pool v is, within))
        ∙ sym (ne_eqb p v (λ e. both_ways (pool (net_in r p)) out (ap (λ k. pool (net_in r k)) e ∙ is)))
    | inr other ↦ ap (λ k. p == k) (placed_out n r pool v other)
  ]

  pub at_pool : (net v : ℕ) → pool net ≡ true → v < n → (n + net == place_of n r pool v) ≡ (net_in r v == net)
  at_pool net v is within = eq_turned (n + net) (place_of n r pool v) ∙ sym (pools.at_pool n r pool net v is within)

  node_edges : (p : ℕ) (es : List Edge) → p < n → pool (net_in r p) ≡ false
      → degree (map (edge_placed n r pool) es) p ≡ degree es p
  node_edges p [] within out = refl
  node_edges p (e ∷ es) within out = omega (
    arith,
    ap bit (at_node p e.a.0 within out),
    ap bit (at_node p e.b.0 within out),
    node_edges p es within out,
    sum_by-cons (meets p) e es,
    sum_by-cons (meets p) (edge_placed n r pool e) (map (edge_placed n r pool) es),
  )

  node_halves : (p : ℕ) (hs : List FingerEnds) → p < n → degree (map (half_placed n) hs) p ≡ 0
  node_halves p [] within = refl
  node_halves p (h ∷ hs) within = omega (
    arith,
    ap bit (ne_eqb p (n + h.lo) (λ e. omega (arith, e, within))),
    ap bit (ne_eqb p (n + h.hi) (λ e. omega (arith, e, within))),
    node_halves p hs within,
    sum_by-cons (meets p) (half_placed n h) (map (half_placed n) hs),
  )

  -- a node in no pool is met by the edges alone
  pub odd_node : (p : ℕ) (es : List Edge) (hs : List FingerEnds) → p < n → pool (net_in r p) ≡ false
      → is_odd (links n r pool es hs) p ≡ is_odd es p
  odd_node p es hs within out =
      let same : degree (links n r pool es hs) p ≡ degree es p =
      omega (
        arith,
        sum_by-append (meets p) (map (edge_placed n r pool) es) (map (half_placed n) hs),
        node_edges p es within out,
        node_halves p hs within,
      ) in
      ap (λ k. k % 2 == 1) same

  pool_edges : (net : ℕ) (es : List Edge) → pool net ≡ true → AreBelow n es
      → degree (map (edge_placed n r pool) es) (n + net) ≡ sum_by (ends_in (λ v. net_in r v == net)) es
  pool_edges net [] is below = refl
  pool_edges net (e ∷ es) is below =
      let here : (e.a.0 < n) × (e.b.0 < n) = All-head (λ (d : Edge). (d.a.0 < n) × (d.b.0 < n)) e es below in
      omega (
        arith,
        ap bit (at_pool net e.a.0 is here.0),
        ap bit (at_pool net e.b.0 is here.1),
        pool_edges net es is (All-tail (λ (d : Edge). (d.a.0 < n) × (d.b.0 < n)) e es below),
        sum_by-cons (ends_in (λ v. net_in r v == net)) e es,
        sum_by-cons (meets (n + net)) (edge_placed n r pool e) (map (edge_placed n r pool) es),
      )

  pub same_half : (net lo : ℕ) → (n + net == n + lo) ≡ (lo == net)
  same_half net lo = elim (cases_eq lo net) [
    | inl e ↦
        let there : n + net ≡ n + lo = ap (λ k. n + k) (sym e) in
        eq-eqb (n + net) (n + lo) there ∙ sym (eq-eqb lo net e)
    | inr other ↦ ne_eqb (n + net) (n + lo) (λ e. other (omega (arith, e))) ∙ sym (ne_eqb lo net other)
  ]

  pool_halves : (net : ℕ) (hs : List FingerEnds) → degree (map (half_placed n) hs) (n + net) ≡ free hs net
  pool_halves net [] = refl
  pool_halves net (h ∷ hs) = omega (
    arith,
    ap bit (same_half net h.lo),
    ap bit (same_half net h.hi),
    pool_halves net hs,
    sum_by-cons (meets (n + net)) (half_placed n h) (map (half_placed n) hs),
    sum_by-cons
        (λ (half : FingerEnds). (if half.lo == net then 1 else 0) + (if half.hi == net then 1 else 0)) h hs,
  )

  -- a pool is odd where its odd nodes and its free ends together are
  pub odd_pool : (net : ℕ) (es : List Edge) (hs : List FingerEnds) → pool net ≡ true → AreBelow n es
      → is_odd (links n r pool es hs) (n + net) ≡ ((waiting n r es net + free hs net) % 2 == 1)
  odd_pool net es hs is below =
      let turned : Turned (odd_in n (λ v. net_in r v == net) (λ v. 0)) (sum_by (ends_in (λ v. net_in r v == net)) es)
      (odd_in n (λ v. net_in r v == net) (λ v. 0 + degree es v)) =
      edges_turn n (λ v. net_in r v == net) (λ v. 0) es below in
      let none : odd_in n (λ v. net_in r v == net) (λ v. 0) ≡ 0 =
      size_same n (is_odd_in (λ v. net_in r v == net) (λ v. 0)) (λ v. false) (λ v l. never (net_in r v == net))
      ∙ size_none n in
      let odd : odd_in n (λ v. net_in r v == net) (λ v. 0 + degree es v) ≡ waiting n r es net =
      size_same n (is_odd_in (λ v. net_in r v == net) (λ v. 0 + degree es v))
      (λ v. (net_in r v == net) && is_odd es v) (λ v l. let same : 0 + degree es v ≡ degree es v = omega arith in
      ap (λ d. (net_in r v == net) && (d % 2 == 1)) same) in
      let met : degree (links n r pool es hs) (n + net)
      ≡ sum_by (ends_in (λ v. net_in r v == net)) es + free hs net =
      sum_by-append (meets (n + net)) (map (edge_placed n r pool) es) (map (half_placed n) hs)
      ∙ omega (arith, pool_edges net es is below, pool_halves net hs) in
      let same : degree (links n r pool es hs) (n + net) % 2 ≡ (waiting n r es net + free hs net) % 2 =
      omega (arith, turned.parity, none, odd, met) in
      ap (λ k. k == 1) same
    where
      never : (b : Bool) → (b && false) ≡ false
      never true = refl
      never false = refl
