-- The ends that are certain: each odd node that no later gate can meet, and two for each class without odd and open
-- nodes.
use Rattle.std.proofs.Common.{ℕ, ◌≡◌, ◌≢◌, ◌+◌, ◌*◌, ◌<◌, ◌≤◌, ◌==◌, ◌||◌, ◌&&◌, Bool, true, false, not, List, [], ◌∷◌, length, map, refl, sym, ap, arith, ◌∙◌, inl, inr, AllPairs, Contains, count_by}
use Rattle.std.specs.List.{filter}
use Rattle.std.proofs.lemmas.Bool.{and_from, and_left, and_parts, both_ways, cases_Bool, eq-eqb, eqb-true, false_from_ne_true, not-true, not_from_false, not_from_true, or_cases, or_from, or_left, or_right}
use Rattle.std.proofs.lemmas.List.{length-map}
use Rattle.std.proofs.lemmas.List.Elements.{All-head, All-tail}
use Rattle.std.proofs.lemmas.List.Kept.{AllPairs-filter}
use Rattle.std.proofs.lemmas.List.Sums.{length-filter}
use Rattle.cell_num.specs.declared.finger.Finger.{Finger}
use Rattle.cell_num.proofs.Lists.{all_from_contains}
use Rattle.cell_num.proofs.Pairs.{pairs_map, test_there}
use Rattle.row_trails.specs.Counts.{size_in}
use Rattle.row_trails.specs.Trails.{size, toggle, toggle_other}
use Rattle.row_state.specs.Chained.{least_labels, least_le}
use Rattle.row_state.specs.Classes.{IsLabelling}
use Rattle.row_state.specs.ClassSizes.{has_stays, size_in_none, size_in_same, size_in_stays}
use Rattle.row_state.specs.Component.{has_finger}
use Rattle.trail_state.specs.declared.edge.Node.{Node}
use Rattle.trail_state.specs.declared.edge.Edge.{Edge}
use Rattle.trail_state.specs.declared.state.Place.{Place}
use Rattle.trail_state.specs.Places.{is_end, is_met}
use Rattle.trail_state.specs.Settling.{closing_of, ends_of, has_class, has_odd, is_closed_trail, is_open, kept_of}
use Rattle.trail_state.proofs.Follows.{Follows, added}
use Rattle.trail_state.proofs.Links.{class_of, finger_of, fingers_of, odd_at, odd_more, unmet_alone}
use Rattle.trail_state.proofs.Members.{At, Passes, mapped, passes_from}
use Rattle.trail_state.proofs.Settles.{AreFewer, of_closing, seen, to_kept}
use Rattle.trail_state.proofs.Sizes.{IsNew, size_adds, size_mono, size_zero}

abbrev pub odd_shut : List Edge → List Node → ℕ → Bool
odd_shut es nodes v = not (is_open nodes v) && odd_at es v

abbrev pub alive : List Edge → List Node → ℕ → Bool
alive es nodes v = is_open nodes v || odd_at es v

abbrev pub has_edge : List Edge → ℕ → Bool
has_edge es h = has_finger (class_of es) (fingers_of es) h

abbrev pub is_closed_at : ℕ → List Edge → List Node → ℕ → Bool
is_closed_at n es nodes h = has_edge es h && (size_in n (class_of es) (alive es nodes) h == 0)

-- of nodes below n
abbrev pub settled : ℕ → List Edge → List Node → ℕ
settled n es nodes = size n (odd_shut es nodes) + 2 * size n (is_closed_at n es nodes)

-- in a class without open and odd nodes there is none
pub none_alive : (n : ℕ) (es : List Edge) (nodes : List Node) (h v : ℕ) → is_closed_at n es nodes h ≡ true → v < n → alive es nodes v ≡ true → class_of es v ≡ h → ⊥
none_alive n es nodes h v closed within live class =
    let parts : (has_edge es h ≡ true) × ((size_in n (class_of es) (alive es nodes) h == 0) ≡ true) = and_parts (has_edge es h) (size_in n (class_of es) (alive es nodes) h == 0) closed in
    both_ways ((class_of es v == h) && alive es nodes v)
    (size_zero n (λ u. (class_of es u == h) && alive es nodes u) v (eqb-true (size_in n (class_of es) (alive es nodes) h) 0 parts.1) within)
    (and_from (class_of es v == h) (alive es nodes v) (eq-eqb (class_of es v) h class) live)

-- an edge between open nodes leaves what is certain
edge_settled : (n : ℕ) (e : Edge) (es : List Edge) (nodes : List Node) → e.a.0 < n → e.b.0 < n → is_open nodes e.a.0 ≡ true → is_open nodes e.b.0 ≡ true → settled n es nodes ≤ settled n (e ∷ es) nodes
edge_settled n e es nodes a_below b_below a_open b_open =
    omega (arith, size_mono n (odd_shut es nodes) (odd_shut (e ∷ es) nodes) (λ v l. still_odd v), size_mono n (is_closed_at n es nodes) (is_closed_at n (e ∷ es) nodes) (λ h l. still_closed h))
  where
    same_odd : (v : ℕ) → (v ≡ e.a.0 → ⊥) → (v ≡ e.b.0 → ⊥) → odd_at (e ∷ es) v ≡ odd_at es v
    same_odd v not_a not_b = odd_more e es v ∙ toggle_other e.a.0 (toggle e.b.0 (odd_at es)) v not_a ∙ toggle_other e.b.0 (odd_at es) v not_b

    shut_other : (v w : ℕ) → is_open nodes v ≡ false → is_open nodes w ≡ true → v ≡ w → ⊥
    shut_other v w shut free same = both_ways (is_open nodes v) shut (ap (is_open nodes) same ∙ free)

    still_odd : (v : ℕ) → odd_shut es nodes v ≡ true → odd_shut (e ∷ es) nodes v ≡ true
    still_odd v h =
        let parts : (not (is_open nodes v) ≡ true) × (odd_at es v ≡ true) = and_parts (not (is_open nodes v)) (odd_at es v) h in
        let shut : is_open nodes v ≡ false = not-true (is_open nodes v) parts.0 in
        and_from (not (is_open nodes v)) (odd_at (e ∷ es) v) parts.0 (same_odd v (shut_other v e.a.0 shut a_open) (shut_other v e.b.0 shut b_open) ∙ parts.1)

    still_closed : (h : ℕ) → is_closed_at n es nodes h ≡ true → is_closed_at n (e ∷ es) nodes h ≡ true
    still_closed h closed =
        let parts : (has_edge es h ≡ true) × ((size_in n (class_of es) (alive es nodes) h == 0) ≡ true) = and_parts (has_edge es h) (size_in n (class_of es) (alive es nodes) h == 0) closed in
        let not_a : h ≡ class_of es e.a.0 → ⊥ = λ is. none_alive n es nodes h e.a.0 closed a_below (or_left (is_open nodes e.a.0) (odd_at es e.a.0) a_open) (sym is) in
        let not_b : h ≡ class_of es e.b.0 → ⊥ = λ is. none_alive n es nodes h e.b.0 closed b_below (or_left (is_open nodes e.b.0) (odd_at es e.b.0) b_open) (sym is) in
        let edge : has_edge (e ∷ es) h ≡ true = or_right (class_of (e ∷ es) e.a.0 == h) (has_finger (class_of (e ∷ es)) (fingers_of es) h) (has_stays (fingers_of es) (class_of es e.a.0) (class_of es e.b.0) h (class_of es) (class_of (e ∷ es)) (λ u. refl) not_a not_b ∙ parts.0) in
        let sizes : size_in n (class_of (e ∷ es)) (alive (e ∷ es) nodes) h ≡ size_in n (class_of es) (alive es nodes) h =
        size_in_stays n (class_of es e.a.0) (class_of es e.b.0) h (class_of es) (class_of (e ∷ es)) (alive (e ∷ es) nodes) (λ u. refl) not_a not_b
        ∙ size_in_same n (class_of es) (alive (e ∷ es) nodes) (alive es nodes) h (λ u class. ap (λ b. is_open nodes u || b) (same_odd u (λ is. not_a (sym class ∙ ap (class_of es) is)) (λ is. not_b (sym class ∙ ap (class_of es) is)))) in
        and_from (has_edge (e ∷ es) h) (size_in n (class_of (e ∷ es)) (alive (e ∷ es) nodes) h == 0) edge (ap (λ m. m == 0) sizes ∙ parts.1)

pub edges_settled : (n : ℕ) (choice es : List Edge) (nodes : List Node) → ((v : ℕ) → is_open nodes v ≡ true → v < n) → ((v : ℕ) → is_met choice v ≡ true → is_open nodes v ≡ true) → settled n es nodes ≤ settled n (added es choice) nodes
edges_settled n [] es nodes below ends = omega arith
edges_settled n (e ∷ choice) es nodes below ends =
    let a_open : is_open nodes e.a.0 ≡ true = ends e.a.0 (or_left (is_end e.a.0 e) (is_met choice e.a.0) (or_left (e.a.0 == e.a.0) (e.b.0 == e.a.0) (eq-eqb e.a.0 e.a.0 refl))) in
    let b_open : is_open nodes e.b.0 ≡ true = ends e.b.0 (or_left (is_end e.b.0 e) (is_met choice e.b.0) (or_right (e.a.0 == e.b.0) (e.b.0 == e.b.0) (eq-eqb e.b.0 e.b.0 refl))) in
    omega (arith, edge_settled n e es nodes (below e.a.0 a_open) (below e.b.0 b_open) a_open b_open, edges_settled n choice (e ∷ es) nodes below (λ v m. ends v (or_right (is_end v e) (is_met choice v) m)))

-- the class of a node that an edge meets has an edge
met_has : (c : ℕ → ℕ) (es : List Edge) (v : ℕ) → IsLabelling c (fingers_of es) → is_met es v ≡ true → has_finger c (fingers_of es) (c v) ≡ true
met_has c [] v ends m = m
met_has c (d ∷ es) v ends m =
    let same : c d.a.0 ≡ c d.b.0 = All-head (λ (f : Finger). c f.lo.0 ≡ c f.hi.0) (finger_of d) (fingers_of es) ends in
    elim (or_cases (is_end v d) (is_met es v) m) [
      | inl end ↦ or_left (c d.a.0 == c v) (has_finger c (fingers_of es) (c v)) (elim (or_cases (d.a.0 == v) (d.b.0 == v) end) [
        | inl a ↦ eq-eqb (c d.a.0) (c v) (ap c (eqb-true d.a.0 v a))
        | inr b ↦ eq-eqb (c d.a.0) (c v) (same ∙ ap c (eqb-true d.b.0 v b))
      ])
      | inr later ↦ or_right (c d.a.0 == c v) (has_finger c (fingers_of es) (c v)) (met_has c es v (All-tail (λ (f : Finger). c f.lo.0 ≡ c f.hi.0) (finger_of d) (fingers_of es) ends) later)
    ]

was_met : (es : List Edge) (v : ℕ) → (is_met es v || is_met [] v) ≡ true → is_met es v ≡ true
was_met es v m = elim (or_cases (is_met es v) (is_met [] v) m) [ inl held ↦ held | inr none ↦ absurd (both_ways false refl none) ]

-- what a closed trail's place says
record IsTrail (kept closing : List Place) (p : Place) : Type 0 where
  pub lead : p.node.0 ≡ p.class.0
  pub unflagged : p.flagged ≡ false
  pub none_kept : has_class kept p.class.0 ≡ false
  pub none_odd : has_odd closing p.class.0 ≡ false

trail_from : (kept closing : List Place) (p : Place) → is_closed_trail kept closing p ≡ true → IsTrail kept closing p
trail_from kept closing p e =
    let a = and_parts ((p.node.0 == p.class.0) && not p.flagged && not (has_class kept p.class.0)) (not (has_odd closing p.class.0)) e in
    let b = and_parts ((p.node.0 == p.class.0) && not p.flagged) (not (has_class kept p.class.0)) a.0 in
    let c = and_parts (p.node.0 == p.class.0) (not p.flagged) b.0 in
    record { lead = eqb-true p.node.0 p.class.0 c.0; unflagged = not-true p.flagged c.1; none_kept = not-true (has_class kept p.class.0) b.1; none_odd = not-true (has_odd closing p.class.0) a.1 }

-- what closes once a gate is done is counted
module _ (n : ℕ) (es : List Edge) (nodes next : List Node) (t : List Place) (h : Follows es [] nodes t) (fewer : AreFewer next nodes) (below : (v : ℕ) → is_open nodes v ≡ true → v < n) where
  abbrev kept : List Place
  kept = kept_of next t

  abbrev closing : List Place
  closing = closing_of next t

  abbrev is_odd_place : Place → Bool
  is_odd_place p = p.odd

  abbrev is_trail : Place → Bool
  is_trail p = is_closed_trail kept closing p

  of_t : (p : Place) → Contains closing p → Contains t p
  of_t p c = (of_closing es nodes next t h fewer p c).there

  shut : (p : Place) → Contains closing p → is_open next p.node.0 ≡ false
  shut p c = not-true (is_open next p.node.0) (of_closing es nodes next t h fewer p c).passes

  apart : AllPairs (λ (p q : Place). p.node.0 ≢ q.node.0) closing
  apart = AllPairs-filter (λ (p q : Place). p.node.0 ≢ q.node.0) (λ (p : Place). not (is_open next p.node.0)) t h.apart

  odd_keys : List ℕ
  odd_keys = map (λ (p : Place). p.node.0) (filter is_odd_place closing)

  new_odd : (p : Place) → Contains (filter is_odd_place closing) p → IsNew n (odd_shut es nodes) (odd_shut es next) p.node.0
  new_odd p c =
      let f : Passes is_odd_place closing p = passes_from is_odd_place closing p c in
      let free : is_open nodes p.node.0 ≡ true = h.within p (of_t p f.there) in
      (below p.node.0 free, and_left (not (is_open nodes p.node.0)) (odd_at es p.node.0) (not_from_true (is_open nodes p.node.0) free), and_from (not (is_open next p.node.0)) (odd_at es p.node.0) (not_from_false (is_open next p.node.0) (shut p f.there)) (sym (h.odd p (of_t p f.there)) ∙ f.passes))

  stay_shut : (v : ℕ) → not (is_open nodes v) ≡ true → not (is_open next v) ≡ true
  stay_shut v closed = elim (cases_Bool (is_open next v)) [
    | inl free ↦ absurd (both_ways (is_open nodes v) (not-true (is_open nodes v) closed) (fewer v free))
    | inr other ↦ not_from_false (is_open next v) other
  ]

  odd_counted : size n (odd_shut es nodes) + count_by is_odd_place closing ≤ size n (odd_shut es next)
  unfolding odd_keys
  odd_counted =
      let adds : size n (odd_shut es nodes) + length odd_keys ≤ size n (odd_shut es next) =
      size_adds n odd_keys (odd_shut es nodes) (odd_shut es next)
      (pairs_map (λ (p q : Place). p.node.0 ≢ q.node.0) (Contains (filter is_odd_place closing)) (λ (a b : ℕ). a ≢ b) (λ (p : Place). p.node.0) (filter is_odd_place closing) (λ p q _ _ differ. differ) (all_from_contains (Contains (filter is_odd_place closing)) (filter is_odd_place closing) (λ p c. c)) (AllPairs-filter (λ (p q : Place). p.node.0 ≢ q.node.0) is_odd_place closing apart))
      (all_from_contains (IsNew n (odd_shut es nodes) (odd_shut es next)) odd_keys (mapped (IsNew n (odd_shut es nodes) (odd_shut es next)) (λ (p : Place). p.node.0) (filter is_odd_place closing) new_odd))
      (λ v e. let parts : (not (is_open nodes v) ≡ true) × (odd_at es v ≡ true) = and_parts (not (is_open nodes v)) (odd_at es v) e in and_from (not (is_open next v)) (odd_at es v) (stay_shut v parts.0) parts.1) in
      omega (arith, adds, length-map (filter is_odd_place closing) (λ (p : Place). p.node.0), length-filter is_odd_place closing)

  trail_keys : List ℕ
  trail_keys = map (λ (p : Place). class_of es p.node.0) (filter is_trail closing)

  -- of a closed trail's class neither an open nor an odd node is left
  open_none : (p : Place) (v : ℕ) → Contains closing p → IsTrail kept closing p → class_of es v ≡ class_of es p.node.0 → At t v → is_open next v ≡ true → ⊥
  open_none p v c trail same at free =
      let class : at.it.class.0 ≡ p.class.0 = h.coarse at.it p at.there (of_t p c) (ap (class_of es) at.node ∙ same) in
      both_ways (has_class kept p.class.0) trail.none_kept
      (test_there (λ (q : Place). q.class.0 == p.class.0) kept at.it (to_kept es nodes next t h fewer at.it at.there (ap (is_open next) at.node ∙ free)) (eq-eqb at.it.class.0 p.class.0 class))

  odd_none : (p : Place) (v : ℕ) → Contains closing p → IsTrail kept closing p → class_of es v ≡ class_of es p.node.0 → odd_at es v ≡ true → ⊥
  odd_none p v c trail same odd =
      let at : At t v = h.known p v (of_t p c) trail.unflagged odd same in
      elim (cases_Bool (is_open next v)) [
        | inl free ↦ open_none p v c trail same at free
        | inr closed ↦ both_ways (has_odd closing p.class.0) trail.none_odd (seen es nodes next t h fewer p v (of_t p c) at odd same closed)
      ]

  dead : (p : Place) (v : ℕ) → Contains closing p → IsTrail kept closing p → class_of es v ≡ class_of es p.node.0 → alive es next v ≡ false
  dead p v c trail same = or_from (is_open next v) (odd_at es v) (false_from_ne_true (is_open next v) shut_node) (false_from_ne_true (odd_at es v) (λ odd. odd_none p v c trail same odd))
    where
      shut_node : is_open next v ≡ true → ⊥
      shut_node free = elim (cases_Bool (is_met es v)) [
        | inl m ↦ open_none p v c trail same (h.there v (fewer v free) m) free
        | inr unmet ↦ both_ways (is_open next p.node.0) (shut p c) (ap (is_open next) (unmet_alone es p.node.0 v unmet (sym same)) ∙ free)
      ]

  new_trail : (p : Place) → Contains (filter is_trail closing) p → IsNew n (is_closed_at n es nodes) (is_closed_at n es next) (class_of es p.node.0)
  new_trail p f =
      let c : Contains closing p = (passes_from is_trail closing p f).there in
      let trail : IsTrail kept closing p = trail_from kept closing p (passes_from is_trail closing p f).passes in
      let free : is_open nodes p.node.0 ≡ true = h.within p (of_t p c) in
      let within : p.node.0 < n = below p.node.0 free in
      let edge : has_edge es (class_of es p.node.0) ≡ true = met_has (class_of es) es p.node.0 (least_labels (fingers_of es)) (was_met es p.node.0 (h.met p (of_t p c))) in
      let none : size_in n (class_of es) (alive es next) (class_of es p.node.0) ≡ 0 = size_in_none n (class_of es) (alive es next) (class_of es p.node.0) (λ u same. dead p u c trail same) in (
        omega (arith, within, least_le (fingers_of es) p.node.0),
        false_from_ne_true (is_closed_at n es nodes (class_of es p.node.0)) (λ closed. none_alive n es nodes (class_of es p.node.0) p.node.0 closed within (or_left (is_open nodes p.node.0) (odd_at es p.node.0) free) refl),
        and_from (has_edge es (class_of es p.node.0)) (size_in n (class_of es) (alive es next) (class_of es p.node.0) == 0) edge (eq-eqb (size_in n (class_of es) (alive es next) (class_of es p.node.0)) 0 none),
      )

  -- two closed trails are of two classes
  trails_differ : (p q : Place) → Contains (filter is_trail closing) p → Contains (filter is_trail closing) q → p.node.0 ≢ q.node.0 → class_of es p.node.0 ≢ class_of es q.node.0
  trails_differ p q cp cq differ same =
      let a : Passes is_trail closing p = passes_from is_trail closing p cp in
      let b : Passes is_trail closing q = passes_from is_trail closing q cq in
      differ ((trail_from kept closing p a.passes).lead ∙ h.coarse p q (of_t p a.there) (of_t q b.there) same ∙ sym (trail_from kept closing q b.passes).lead)

  still_closed : (k : ℕ) → is_closed_at n es nodes k ≡ true → is_closed_at n es next k ≡ true
  still_closed k closed =
      let parts : (has_edge es k ≡ true) × ((size_in n (class_of es) (alive es nodes) k == 0) ≡ true) = and_parts (has_edge es k) (size_in n (class_of es) (alive es nodes) k == 0) closed in
      let fewer_in : size_in n (class_of es) (alive es next) k ≤ size_in n (class_of es) (alive es nodes) k = size_mono n (λ u. (class_of es u == k) && alive es next u) (λ u. (class_of es u == k) && alive es nodes u) (λ u l e. more_alive u e) in
      let none : size_in n (class_of es) (alive es next) k ≡ 0 = omega (arith, fewer_in, eqb-true (size_in n (class_of es) (alive es nodes) k) 0 parts.1) in
      and_from (has_edge es k) (size_in n (class_of es) (alive es next) k == 0) parts.0 (eq-eqb (size_in n (class_of es) (alive es next) k) 0 none)
    where
      more_alive : (u : ℕ) → ((class_of es u == k) && alive es next u) ≡ true → ((class_of es u == k) && alive es nodes u) ≡ true
      more_alive u e =
          let parts : ((class_of es u == k) ≡ true) × (alive es next u ≡ true) = and_parts (class_of es u == k) (alive es next u) e in
          and_from (class_of es u == k) (alive es nodes u) parts.0 (elim (or_cases (is_open next u) (odd_at es u) parts.1) [
            | inl free ↦ or_left (is_open nodes u) (odd_at es u) (fewer u free)
            | inr odd ↦ or_right (is_open nodes u) (odd_at es u) odd
          ])

  trails_counted : size n (is_closed_at n es nodes) + count_by is_trail closing ≤ size n (is_closed_at n es next)
  unfolding trail_keys
  trails_counted =
      let adds : size n (is_closed_at n es nodes) + length trail_keys ≤ size n (is_closed_at n es next) =
      size_adds n trail_keys (is_closed_at n es nodes) (is_closed_at n es next)
      (pairs_map (λ (p q : Place). p.node.0 ≢ q.node.0) (Contains (filter is_trail closing)) (λ (a b : ℕ). a ≢ b) (λ (p : Place). class_of es p.node.0) (filter is_trail closing) trails_differ (all_from_contains (Contains (filter is_trail closing)) (filter is_trail closing) (λ p c. c)) (AllPairs-filter (λ (p q : Place). p.node.0 ≢ q.node.0) is_trail closing apart))
      (all_from_contains (IsNew n (is_closed_at n es nodes) (is_closed_at n es next)) trail_keys (mapped (IsNew n (is_closed_at n es nodes) (is_closed_at n es next)) (λ (p : Place). class_of es p.node.0) (filter is_trail closing) new_trail))
      still_closed in
      omega (arith, adds, length-map (filter is_trail closing) (λ (p : Place). class_of es p.node.0), length-filter is_trail closing)

  pub gate_settled : settled n es nodes + ends_of next t ≤ settled n es next
  gate_settled = omega (arith, odd_counted, trails_counted)
