-- What edges and half edges between open places do not meet.
use Rattle.std.proofs.Common.{ℕ, ◌≡◌, ◌≢◌, ◌+◌, ◌-◌, ◌*◌, ◌%◌, ◌<◌, ◌≤◌, ◌==◌, ◌&&◌, Bool, true, false, not}
use Rattle.std.proofs.Common.{if◌then◌else◌, leb, List, [], ◌∷◌, ◌++◌, refl, sym, ap, subst, arith, ◌∙◌, inl, inr, ◌⊎◌}
use Rattle.std.proofs.Common.{All, Contains, map}
use Rattle.std.proofs.lemmas.Bool.{both_ways, cases_eq, eqb-true, false_from_ne_true, leb-false, leb-true, ne_eqb}
use Rattle.std.proofs.lemmas.Bool.{or_cases}
use Rattle.std.proofs.lemmas.List.Elements.{All-contains, Contains-append_cases}
use Rattle.std.proofs.lemmas.List.Sums.{sum_by-cons}
use Rattle.cell_num.specs.declared.finger.Row.{Row}
use Rattle.cell_num.proofs.In.{Image, in_map}
use Rattle.cell_num.proofs.Lists.{all_from_contains, contains_here, contains_there}
use Rattle.cell_num.proofs.Pairs.{Some', test_finds}
use Rattle.row_trails.specs.Trails.{size_same}
use Rattle.trail_state.specs.declared.edge.Node.{Node}
use Rattle.trail_state.specs.declared.edge.Edge.{Edge}
use Rattle.trail_state.specs.declared.edge.FingerEnds.{FingerEnds}
use Rattle.trail_state.specs.Places.{differ, is_end, is_met}
use Rattle.trail_state.specs.Settling.{is_open}
use Rattle.open_gates.specs.Merged.{net_in}
use Rattle.trail_check.specs.Graph.{degree, is_odd}
use Rattle.trail_check.proofs.Edges.{meets}
use Rattle.trail_halves.specs.Halves.{edge_placed, free, half_placed, links, place_of, short, waiting}
use Rattle.trail_halves.specs.declared.choice.OpenChoice.{OpenChoice}
use Rattle.trail_halves.proofs.Pools.{placed_in}
use Rattle.trail_pools.specs.Levels.{ArePlaces, IsOpenEdge, IsOpenHalf, IsOpenNode, IsPlace, MeetsOpen}
use Rattle.trail_pools.specs.declared.level.OpenPlaces.{OpenPlaces}
use Rattle.trail_pools.proofs.Placed.{odd_append}
use Rattle.trail_pools.proofs.Tracks.{odd_shut}

-- edges that do not meet a node
no_degree : (v : ℕ) (es : List Edge) → ((e : Edge) → Contains es e → (v ≢ e.a.0) × (v ≢ e.b.0)) → degree es v ≡ 0
no_degree v [] apart = refl
no_degree v (e ∷ es) apart =
    let here : (v ≢ e.a.0) × (v ≢ e.b.0) = apart e (contains_here e es) in
    let a : ◌≡◌ {A = ℕ} (if v == e.a.0 then 1 else 0) 0 = rw (ne_eqb v e.a.0 here.0) refl in
    let b : ◌≡◌ {A = ℕ} (if v == e.b.0 then 1 else 0) 0 = rw (ne_eqb v e.b.0 here.1) refl in
    omega (arith, a, b, no_degree v es (λ d k. apart d (contains_there e es d k)), sum_by-cons (meets v) e es)

pub not_odd : (v : ℕ) (es : List Edge) → ((e : Edge) → Contains es e → (v ≢ e.a.0) × (v ≢ e.b.0)) → is_odd es v ≡ false
not_odd v es apart = ap (λ k. k % 2 == 1) (no_degree v es apart)

-- an odd number is short of some end
pub short_odd : (o f : ℕ) → (o + f) % 2 ≡ 1 → short o f ≢ 0
short_odd o f odd = by (leb f o) refl
  where
    by : (b : Bool) → leb f o ≡ b → (if b then o - f else (f - o) % 2) ≢ 0
    by true le = λ e. omega (arith, odd, leb-true f o le, e)
    by false more = λ e. omega (arith, odd, leb-false f o more, e)

module _ (n : ℕ) (r : Row) (pool : ℕ → Bool) where
  pub place_open : (o : OpenPlaces) → ArePlaces n r pool o → (p : ℕ) → is_open o.places p ≡ true
      → (p < 2 * n) × (p < n → pool (net_in r p) ≡ false) × (n ≤ p → pool (p - n) ≡ true)
  place_open o places p free =
      let w : Some' (λ (v : Node). (v.0 == p) ≡ true) o.places = test_finds (λ (v : Node). v.0 == p) o.places free in
      let is : IsPlace n r pool w.it = All-contains (IsPlace n r pool) o.places w.it places.are w.there in
      subst (λ q. (q < 2 * n) × (q < n → pool (net_in r q) ≡ false) × (n ≤ q → pool (q - n) ≡ true))
      (eqb-true w.it.0 p w.holds) (is.below, is.is_node, is.is_pool)

  -- a node in no pool, and a node of a pool, that open edges do not meet
  pub node_apart : (o : OpenPlaces) (p : ℕ) (es : List Edge) → All (IsOpenEdge n r pool o) es
      → is_open o.places (place_of n r pool p) ≡ false → (e : Edge) → Contains es e → (p ≢ e.a.0) × (p ≢ e.b.0)
  node_apart o p es all shut e k =
      let at : IsOpenNode n r pool o e.a.0 × IsOpenNode n r pool o e.b.0 =
      All-contains (IsOpenEdge n r pool o) es e all k in (
        λ is. both_ways (is_open o.places (place_of n r pool p)) shut
            (ap (λ v. is_open o.places (place_of n r pool v)) is ∙ at.0.place),
        λ is. both_ways (is_open o.places (place_of n r pool p)) shut
            (ap (λ v. is_open o.places (place_of n r pool v)) is ∙ at.1.place),
      )

  pub pool_apart : (o : OpenPlaces) (p : ℕ) (es : List Edge) → All (IsOpenEdge n r pool o) es
      → pool (net_in r p) ≡ true → is_open o.nodes p ≡ false → (e : Edge) → Contains es e
      → (p ≢ e.a.0) × (p ≢ e.b.0)
  pool_apart o p es all is shut e k =
      let at : IsOpenNode n r pool o e.a.0 × IsOpenNode n r pool o e.b.0 =
      All-contains (IsOpenEdge n r pool o) es e all k in (
        λ same. both_ways (is_open o.nodes p) shut
            (ap (is_open o.nodes) same ∙ at.0.node (sym (ap (λ v. pool (net_in r v)) same) ∙ is)),
        λ same. both_ways (is_open o.nodes p) shut
            (ap (is_open o.nodes) same ∙ at.1.node (sym (ap (λ v. pool (net_in r v)) same) ∙ is)),
      )

  pub no_free : (o : OpenPlaces) (net : ℕ) (hs : List FingerEnds) → All (IsOpenHalf n r pool o) hs
      → is_open o.places (n + net) ≡ false → free hs net ≡ 0
  no_free o net [] all shut = refl
  no_free o net (h ∷ hs) all shut =
      let at : IsOpenHalf n r pool o h = All-contains (IsOpenHalf n r pool o) (h ∷ hs) h all (contains_here h hs) in
      let rest : All (IsOpenHalf n r pool o) hs =
      all_from_contains (IsOpenHalf n r pool o) hs
      (λ k c. All-contains (IsOpenHalf n r pool o) (h ∷ hs) k all (contains_there h hs k c)) in
      let lo : ◌≡◌ {A = ℕ} (if h.lo == net then 1 else 0) 0 =
      rw (ne_eqb h.lo net (λ e. both_ways (is_open o.places (n + net)) shut
      (ap (λ k. is_open o.places (n + k)) (sym e) ∙ at.0))) refl in
      let hi : ◌≡◌ {A = ℕ} (if h.hi == net then 1 else 0) 0 =
      rw (ne_eqb h.hi net (λ e. both_ways (is_open o.places (n + net)) shut
      (ap (λ k. is_open o.places (n + k)) (sym e) ∙ at.1))) refl in
      omega (
        arith,
        lo,
        hi,
        no_free o net hs rest shut,
        sum_by-cons
            (λ (half : FingerEnds). (if half.lo == net then 1 else 0) + (if half.hi == net then 1 else 0)) h hs,
      )

  -- the odd nodes of a pool that is shut are all known
  pub all_waiting : (o : OpenPlaces) (es ds : List Edge) (net : ℕ) → ArePlaces n r pool o
      → All (IsOpenEdge n r pool o) ds → pool net ≡ true → is_open o.places (n + net) ≡ false
      → waiting n r (es ++ ds) net ≡ odd_shut n r pool es o net
  all_waiting o es ds net places later is shut =
      size_same n (λ v. (net_in r v == net) && is_odd (es ++ ds) v)
      (λ v. (net_in r v == net) && (is_odd es v && not (is_open o.nodes v))) (λ v l. each v (cases_eq (net_in r v) net))
    where
      each : (v : ℕ) → (net_in r v ≡ net) ⊎ (net_in r v ≢ net) → ((net_in r v == net) && is_odd (es ++ ds) v)
          ≡ ((net_in r v == net) && (is_odd es v && not (is_open o.nodes v)))
      each v (inr other) =
          ap (λ b. b && is_odd (es ++ ds) v) (ne_eqb (net_in r v) net other)
          ∙ sym (ap (λ b. b && (is_odd es v && not (is_open o.nodes v))) (ne_eqb (net_in r v) net other))
      each v (inl e) =
          let pooled : pool (net_in r v) ≡ true = ap pool e ∙ is in
          let place : is_open o.places (place_of n r pool v) ≡ false =
          ap (is_open o.places) (placed_in n r pool v pooled ∙ ap (λ k. n + k) e) ∙ shut in
          let closed : is_open o.nodes v ≡ false =
          false_from_ne_true (is_open o.nodes v) (λ free. both_ways (is_open o.places (n + net)) shut
          (ap (λ k. is_open o.places (n + k)) (sym e) ∙ places.pools v pooled free)) in
          ap (λ b. (net_in r v == net) && b)
          (odd_append es ds v ∙ ap (λ b. differ (is_odd es v) b) (not_odd v ds (node_apart o v ds later place))
          ∙ unturned (is_odd es v) ∙ sym (ap (λ b. is_odd es v && not b) closed))
        where
          unturned : (b : Bool) → differ b false ≡ (b && true)
          unturned true = refl
          unturned false = refl

  pub links_open : (o : OpenPlaces) (c : OpenChoice) → MeetsOpen n r pool o c → (v : ℕ)
      → is_met (links n r pool c.edges c.halves) v ≡ true → is_open o.places v ≡ true
  links_open o c meets_open v met =
      let f : Some' (λ e. is_end v e ≡ true) (links n r pool c.edges c.halves) =
      test_finds (is_end v) (links n r pool c.edges c.halves) met in
      elim (Contains-append_cases (map (edge_placed n r pool) c.edges) (map (half_placed n) c.halves) f.it f.there) [
        | inl by_edge ↦
            let i : Image (edge_placed n r pool) c.edges f.it = in_map (edge_placed n r pool) c.edges f.it by_edge in
            let at : IsOpenEdge n r pool o i.of = All-contains (IsOpenEdge n r pool o) c.edges i.of meets_open.edges
            i.listed in
            of_ends f.it f.holds (subst (λ (d : Edge). (is_open o.places d.a.0 ≡ true) ×
            (is_open o.places d.b.0 ≡ true))
            i.is (at.0.place, at.1.place))
        | inr by_half ↦
            let i : Image (half_placed n) c.halves f.it = in_map (half_placed n) c.halves f.it by_half in
            let at : IsOpenHalf n r pool o i.of = All-contains (IsOpenHalf n r pool o) c.halves i.of meets_open.halves
            i.listed in
            of_ends f.it f.holds (subst (λ (d : Edge). (is_open o.places d.a.0 ≡ true) ×
            (is_open o.places d.b.0 ≡ true))
            i.is at)
      ]
    where
      of_ends : (d : Edge) → is_end v d ≡ true → (is_open o.places d.a.0 ≡ true) × (is_open o.places d.b.0 ≡ true)
          → is_open o.places v ≡ true
      of_ends d end at = elim (or_cases (d.a.0 == v) (d.b.0 == v) end) [
        | inl a ↦ subst (λ u. is_open o.places u ≡ true) (eqb-true d.a.0 v a) at.0
        | inr b ↦ subst (λ u. is_open o.places u ≡ true) (eqb-true d.b.0 v b) at.1
      ]
