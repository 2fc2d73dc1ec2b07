-- What is certain once a gate is done was certain before, or is an end at a node or a class that closes.
use Rattle.std.proofs.Common.{ℕ, ◌≡◌, ◌+◌, ◌<◌, ◌≤◌, ◌==◌, ◌&&◌, Bool, true, false, not}
use Rattle.std.proofs.Common.{List, [], ◌∷◌, map, refl, sym, ap, subst, arith, ◌∙◌, inl, inr, ◌⊎◌, Contains, count_by}
use Rattle.std.specs.List.{filter}
use Rattle.std.proofs.lemmas.Bool.{and_from, and_parts, both_ways, cases_Bool, cases_eq, eq-eqb, eqb-true}
use Rattle.std.proofs.lemmas.Bool.{false_from_ne_true, not-true, not_from_false, or_cases, or_left, or_right}
use Rattle.std.proofs.lemmas.List.{length-map}
use Rattle.std.proofs.lemmas.List.Sums.{length-filter}
use Rattle.cell_num.proofs.In.{contains_map}
use Rattle.cell_num.proofs.Lists.{contains_here, contains_there}
use Rattle.cell_num.proofs.Pairs.{Some', test_finds, test_there}
use Rattle.row_trails.specs.Counts.{size_in}
use Rattle.row_trails.specs.Trails.{size}
use Rattle.row_state.specs.Component.{has_finger}
use Rattle.trail_state.specs.declared.edge.Node.{Node}
use Rattle.trail_state.specs.declared.edge.Edge.{Edge}
use Rattle.trail_state.specs.declared.state.Place.{Place}
use Rattle.trail_state.specs.Places.{is_end, is_met}
use Rattle.trail_state.specs.Settling.{closing_of, ends_of, has_class, has_odd, is_closed_trail, is_open, kept_of}
use Rattle.trail_state.proofs.Counted.{alive, has_edge, is_closed_at, none_alive, odd_shut, settled}
use Rattle.trail_state.proofs.Follows.{Follows}
use Rattle.trail_state.proofs.Links.{class_of, fingers_of, odd_at, unmet_alone, unmet_even}
use Rattle.trail_state.proofs.Members.{At, Passes, passes_from, passes_to}
use Rattle.trail_state.proofs.Settles.{AreFewer, to_closing}
use Rattle.trail_check.proofs.Exact.{HasShut, IsExact}
use Rattle.trail_check.proofs.Covered.{size_listed, size_some}

-- an edge of a class that has one
edge_in : (c : ℕ → ℕ) (es : List Edge) (h : ℕ) → has_finger c (fingers_of es) h ≡ true → (d : Edge) × Contains es d ×
    (c d.a.0 ≡ h)
edge_in c [] h none = absurd (both_ways false refl none)
edge_in c (d ∷ es) h some = elim (or_cases (c d.a.0 == h) (has_finger c (fingers_of es) h) some) [
  | inl here ↦ (d, contains_here d es, eqb-true (c d.a.0) h here)
  | inr later ↦ let rest = edge_in c es h later in (rest.0, contains_there d es rest.0 rest.1, rest.2)
]

meets_a : (es : List Edge) (d : Edge) → Contains es d → is_met es d.a.0 ≡ true
meets_a es d k = test_there (is_end d.a.0) es d k (or_left (d.a.0 == d.a.0) (d.b.0 == d.a.0) (eq-eqb d.a.0 d.a.0 refl))

module _ (n : ℕ) (es : List Edge) (nodes next : List Node) (t : List Place) (h : Follows es [] nodes t)
    (fewer : AreFewer next nodes) (below : (v : ℕ) → is_open nodes v ≡ true → v < n) (exact : IsExact n es nodes t)
  where
    abbrev kept : List Place
    kept = kept_of next t

    abbrev closing : List Place
    closing = closing_of next t

    abbrev is_odd_place : Place → Bool
    is_odd_place p = p.odd

    abbrev is_trail : Place → Bool
    is_trail p = is_closed_trail kept closing p

    abbrev odd_keys : List ℕ
    odd_keys = map (λ (p : Place). p.node.0) (filter is_odd_place closing)

    abbrev trail_keys : List ℕ
    trail_keys = map (λ (p : Place). class_of es p.node.0) (filter is_trail closing)

    closes : (p : Place) → Contains t p → is_open next p.node.0 ≡ false → Contains closing p
    closes p c shut = to_closing es nodes next t h fewer p c shut

    met_odd : (v : ℕ) → odd_at es v ≡ true → is_met es v ≡ true
    met_odd v odd = elim (cases_Bool (is_met es v)) [
      | inl m ↦ m
      | inr unmet ↦ absurd (both_ways (odd_at es v) (unmet_even es v unmet) odd)
    ]

    -- an odd node that closes is counted
    odd_listed : (v : ℕ) → odd_shut es next v ≡ true → (odd_shut es nodes v ≡ true) ⊎ Contains odd_keys v
    odd_listed v e =
        let parts : (not (is_open next v) ≡ true) × (odd_at es v ≡ true) = and_parts (not (is_open next v))
        (odd_at es v)
        e in
        elim (cases_Bool (is_open nodes v)) [
          | inl free ↦
              let at : At t v = h.there v free (met_odd v parts.1) in
              let shut : is_open next at.it.node.0 ≡ false = ap (is_open next) at.node ∙ not-true (is_open next v)
              parts.0
              in
              let odd : at.it.odd ≡ true = h.odd at.it at.there ∙ ap (odd_at es) at.node ∙ parts.1 in
              inr (subst (Contains (map (λ (p : Place). p.node.0) (filter is_odd_place closing))) at.node
              (contains_map (λ (p : Place). p.node.0) (filter is_odd_place closing) at.it
              (passes_to is_odd_place closing at.it (closes at.it at.there shut) odd)))
          | inr shut ↦ inl (and_from (not (is_open nodes v)) (odd_at es v) (not_from_false (is_open nodes v) shut)
              parts.1)
        ]

    -- a class of edges without open and odd nodes, and the place that names it
    module _ (k : ℕ) (closed : is_closed_at n es next k ≡ true) (p : Place) (c : Contains t p)
        (class : class_of es p.node.0 ≡ k) (lead : p.node.0 ≡ p.class.0) where
      dead : (q : Place) → Contains t q → q.class.0 ≡ p.class.0 → alive es next q.node.0 ≡ true → ⊥
      dead q d same live =
          none_alive n es next k q.node.0 closed (below q.node.0 (h.within q d)) live
          (sym (exact.named q d) ∙ ap (class_of es) same ∙ exact.named p c ∙ class)

      unflagged : p.flagged ≡ false
      unflagged = false_from_ne_true p.flagged (λ flag. by (exact.marked p c flag))
        where
          by : HasShut n es nodes p.node.0 → ⊥
          by m =
              none_alive n es next k m.it closed m.below (or_right (is_open next m.it) (odd_at es m.it) m.odd)
              (m.same ∙ class)

      none_kept : has_class kept p.class.0 ≡ false
      none_kept =
          false_from_ne_true (has_class kept p.class.0)
          (λ some. by (test_finds (λ (q : Place). q.class.0 == p.class.0) kept some))
        where
          by : Some' (λ (q : Place). (q.class.0 == p.class.0) ≡ true) kept → ⊥
          by s =
              let from : Passes (λ (q : Place). is_open next q.node.0) t s.it =
              passes_from (λ (q : Place). is_open next q.node.0) t s.it s.there in
              dead s.it from.there (eqb-true s.it.class.0 p.class.0 s.holds)
              (or_left (is_open next s.it.node.0) (odd_at es s.it.node.0) from.passes)

      none_odd : has_odd closing p.class.0 ≡ false
      none_odd =
          false_from_ne_true (has_odd closing p.class.0)
          (λ some. by (test_finds (λ (q : Place). (q.class.0 == p.class.0) && q.odd) closing some))
        where
          by : Some' (λ (q : Place). ((q.class.0 == p.class.0) && q.odd) ≡ true) closing → ⊥
          by s =
              let parts : ((s.it.class.0 == p.class.0) ≡ true) × (s.it.odd ≡ true) =
              and_parts (s.it.class.0 == p.class.0) s.it.odd s.holds in
              let from : Passes (λ (q : Place). not (is_open next q.node.0)) t s.it =
              passes_from (λ (q : Place). not (is_open next q.node.0)) t s.it s.there in
              dead s.it from.there (eqb-true s.it.class.0 p.class.0 parts.0)
              (or_right (is_open next s.it.node.0) (odd_at es s.it.node.0) (sym (h.odd s.it from.there) ∙ parts.1))

      shut : is_open next p.node.0 ≡ false
      shut = false_from_ne_true (is_open next p.node.0) (λ free. dead p c refl
          (or_left (is_open next p.node.0) (odd_at es p.node.0) free))

      closed_trail : is_trail p ≡ true
      closed_trail =
          and_from ((p.node.0 == p.class.0) && not p.flagged && not (has_class kept p.class.0))
          (not (has_odd closing p.class.0))
          (and_from ((p.node.0 == p.class.0) && not p.flagged) (not (has_class kept p.class.0))
          (and_from (p.node.0 == p.class.0) (not p.flagged) (eq-eqb p.node.0 p.class.0 lead)
          (not_from_false p.flagged unflagged))
          (not_from_false (has_class kept p.class.0) none_kept)) (not_from_false (has_odd closing p.class.0) none_odd)

      trail_here : Contains trail_keys k
      trail_here =
          subst (Contains (map (λ (q : Place). class_of es q.node.0) (filter is_trail closing))) class
          (contains_map (λ (q : Place). class_of es q.node.0) (filter is_trail closing) p
          (passes_to is_trail closing p (closes p c shut) closed_trail))

    -- the place that names the class of a node
    at_node : (k v : ℕ) → is_closed_at n es next k ≡ true → class_of es v ≡ k → At t v → Contains trail_keys k
    at_node k v closed class at =
        let named : At t at.it.class.0 = h.named at.it at.there in
        let same : class_of es named.it.node.0 ≡ class_of es at.it.node.0 = ap (class_of es) named.node ∙ exact.named
        at.it at.there in
        let lead : named.it.node.0 ≡ named.it.class.0 = named.node ∙ sym
        (h.coarse named.it at.it named.there at.there same) in
        trail_here k closed named.it named.there (same ∙ ap (class_of es) at.node ∙ class) lead

    -- a class that closes is counted
    trail_listed : (k : ℕ) → is_closed_at n es next k ≡ true →
        (is_closed_at n es nodes k ≡ true) ⊎ Contains trail_keys k
    trail_listed k closed = elim (cases_eq (size_in n (class_of es) (alive es nodes) k) 0) [
      | inl none ↦ inl (and_from (has_edge es k) (size_in n (class_of es) (alive es nodes) k == 0) edge
          (eq-eqb (size_in n (class_of es) (alive es nodes) k) 0 none))
      | inr some ↦ let v = size_some n (λ u. (class_of es u == k) && alive es nodes u) some in
          inr (by_node v.0 v.1 (and_parts (class_of es v.0 == k) (alive es nodes v.0) v.2))
    ]
      where
        edge : has_edge es k ≡ true
        edge = (and_parts (has_edge es k) (size_in n (class_of es) (alive es next) k == 0) closed).0

        met : (v : ℕ) → class_of es v ≡ k → is_met es v ≡ true
        met v class = elim (cases_Bool (is_met es v)) [
          | inl m ↦ m
          | inr unmet ↦
              let d = edge_in (class_of es) es k edge in
              let same : d.0.a.0 ≡ v = unmet_alone es d.0.a.0 v unmet (d.2 ∙ sym class) in
              absurd (both_ways (is_met es v) unmet (ap (is_met es) (sym same) ∙ meets_a es d.0 d.1))
        ]

        by_node : (v : ℕ) → v < n → ((class_of es v == k) ≡ true) × (alive es nodes v ≡ true) → Contains trail_keys k
        by_node v within parts =
            let class : class_of es v ≡ k = eqb-true (class_of es v) k parts.0 in
            elim (or_cases (is_open nodes v) (odd_at es v) parts.1) [
              | inl free ↦ at_node k v closed class (h.there v free (met v class))
              | inr odd ↦ absurd (none_alive n es next k v closed within (or_right (is_open next v) (odd_at es v) odd)
                  class)
            ]

    odds_settle : size n (odd_shut es next) ≤ size n (odd_shut es nodes) + count_by is_odd_place closing
    odds_settle =
        omega (
          arith,
          size_listed n odd_keys (odd_shut es nodes) (odd_shut es next) (λ v l. odd_listed v),
          length-map (filter is_odd_place closing) (λ (p : Place). p.node.0),
          length-filter is_odd_place closing,
        )

    trails_settle : size n (is_closed_at n es next) ≤ size n (is_closed_at n es nodes) + count_by is_trail closing
    trails_settle =
        omega (
          arith,
          size_listed n trail_keys (is_closed_at n es nodes) (is_closed_at n es next) (λ k l. trail_listed k),
          length-map (filter is_trail closing) (λ (p : Place). class_of es p.node.0),
          length-filter is_trail closing,
        )

    pub gate_settles : settled n es next ≤ settled n es nodes + ends_of next t
    gate_settles = omega (arith, odds_settle, trails_settle)
