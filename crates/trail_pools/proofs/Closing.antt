-- What closes once a gate is done is counted: ends at places, and closed trails.
use Rattle.std.proofs.Common.{ℕ, ◌≡◌, ◌≢◌, ◌+◌, ◌<◌, ◌≤◌, ◌==◌, ◌&&◌, Bool, true, false, not, if◌then◌else◌, List, []}
use Rattle.std.proofs.Common.{length, map, refl, sym, ap, arith, ◌∙◌, inl, inr, AllPairs, Contains, count_by, sum_by}
use Rattle.std.proofs.Common.{◌⊎◌}
use Rattle.std.specs.List.{filter}
use Rattle.std.proofs.lemmas.Bool.{and_from, and_parts, both_ways, cases_Bool, cases_eq, eq-eqb, eqb-true}
use Rattle.std.proofs.lemmas.Bool.{false_from_ne_true, not-true, or_cases, or_from, or_left, or_right}
use Rattle.std.proofs.lemmas.List.{length-map}
use Rattle.std.proofs.lemmas.List.Kept.{AllPairs-filter}
use Rattle.std.proofs.lemmas.List.Sums.{length-filter}
use Rattle.cell_num.specs.Fingers.{sum_below}
use Rattle.cell_num.proofs.Lists.{all_from_contains}
use Rattle.cell_num.proofs.Pairs.{pairs_map, test_there}
use Rattle.row_trails.specs.Counts.{size_in}
use Rattle.row_trails.specs.Trails.{size}
use Rattle.row_state.specs.Chained.{least_labels, least_le}
use Rattle.row_state.specs.ClassSizes.{size_in_none}
use Rattle.trail_state.specs.declared.edge.Node.{Node}
use Rattle.trail_state.specs.declared.edge.Edge.{Edge}
use Rattle.trail_state.specs.declared.state.Place.{Place}
use Rattle.trail_state.specs.Places.{is_met}
use Rattle.trail_state.specs.Settling.{closing_of, has_class, is_open, kept_of}
use Rattle.trail_state.proofs.Counted.{has_edge}
use Rattle.trail_state.proofs.Follows.{Follows}
use Rattle.trail_state.proofs.Links.{class_of, fingers_of, unmet_alone}
use Rattle.trail_state.proofs.Members.{At, Passes, mapped, passes_from}
use Rattle.trail_state.proofs.Settles.{AreFewer, of_closing, to_kept}
use Rattle.trail_state.proofs.Sizes.{IsNew, size_adds, size_mono}
use Rattle.trail_pools.specs.State.{ends_settled, has_ends, is_closed_trail}
use Rattle.trail_pools.proofs.Counted.{alive, is_closed_at, met_has, none_alive, settled, shut_ends}
use Rattle.trail_pools.proofs.Held.{Held, was_met}
use Rattle.trail_pools.proofs.Settles.{AreEnds, seen}
use Rattle.trail_pools.proofs.Sums.{sum_adds, sum_mapped}

-- what a closed trail's place says
record IsTrail (ends_at : Place → ℕ) (kept closing : List Place) (p : Place) : Type 0 where
  pub lead : p.node.0 ≡ p.class.0
  pub unflagged : p.flagged ≡ false
  pub none_kept : has_class kept p.class.0 ≡ false
  pub no_ends : has_ends ends_at closing p.class.0 ≡ false

trail_from : (ends_at : Place → ℕ) (kept closing : List Place) (p : Place)
    → is_closed_trail ends_at kept closing p ≡ true → IsTrail ends_at kept closing p
trail_from ends_at kept closing p e =
    let a : (((p.node.0 == p.class.0) && not p.flagged && not (has_class kept p.class.0)) ≡ true)
    × (not (has_ends ends_at closing p.class.0) ≡ true) =
    and_parts ((p.node.0 == p.class.0) && not p.flagged && not (has_class kept p.class.0))
    (not (has_ends ends_at closing p.class.0)) e in
    let b : (((p.node.0 == p.class.0) && not p.flagged) ≡ true) × (not (has_class kept p.class.0) ≡ true) =
    and_parts ((p.node.0 == p.class.0) && not p.flagged) (not (has_class kept p.class.0)) a.0 in
    let c : ((p.node.0 == p.class.0) ≡ true) × (not p.flagged ≡ true) =
    and_parts (p.node.0 == p.class.0) (not p.flagged) b.0 in
    record {
      lead = eqb-true p.node.0 p.class.0 c.0;
      unflagged = not-true p.flagged c.1;
      none_kept = not-true (has_class kept p.class.0) b.1;
      no_ends = not-true (has_ends ends_at closing p.class.0) a.1;
    }

-- what closes once a gate is done is counted
module _ (m : ℕ) (ends : ℕ → ℕ) (es : List Edge) (nodes next : List Node) (t : List Place)
    (h : Follows es [] nodes t) (fewer : AreFewer next nodes) (below : (v : ℕ) → is_open nodes v ≡ true → v < m)
    (ends_at : Place → ℕ) (are : AreEnds (closing_of next t) ends_at ends) (held : Held ends es t) where
  abbrev kept : List Place
  kept = kept_of next t

  abbrev closing : List Place
  closing = closing_of next t

  abbrev is_trail : Place → Bool
  is_trail p = is_closed_trail ends_at kept closing p

  of_t : (p : Place) → Contains closing p → Contains t p
  of_t p c = (of_closing es nodes next t h fewer p c).there

  shut : (p : Place) → Contains closing p → is_open next p.node.0 ≡ false
  shut p c = not-true (is_open next p.node.0) (of_closing es nodes next t h fewer p c).passes

  apart : AllPairs (λ (p q : Place). p.node.0 ≢ q.node.0) closing
  apart =
      AllPairs-filter (λ (p q : Place). p.node.0 ≢ q.node.0) (λ (p : Place). not (is_open next p.node.0)) t h.apart

  keys_differ : AllPairs (λ a b. a ≢ b) (map (λ (p : Place). p.node.0) closing)
  keys_differ =
      pairs_map (λ (p q : Place). p.node.0 ≢ q.node.0) (Contains closing) (λ (a b : ℕ). a ≢ b)
      (λ (p : Place). p.node.0) closing (λ p q _ _ differ. differ)
      (all_from_contains (Contains closing) closing (λ p c. c)) apart

  ends_more : (v : ℕ) → shut_ends m ends nodes v ≤ shut_ends m ends next v
  ends_more v = by (is_open nodes v) (is_open next v) refl refl
    where
      by : (a b : Bool) → is_open nodes v ≡ a → is_open next v ≡ b
          → (if a then 0 else ends v) ≤ (if b then 0 else ends v)
      by true b is later = omega arith
      by false false is later = omega arith
      by false true is later = absurd (both_ways (is_open nodes v) is (fewer v later))

  new_ends : (p : Place) → Contains closing p → (p.node.0 < m) × (shut_ends m ends nodes p.node.0 ≡ 0)
      × (ends p.node.0 ≤ shut_ends m ends next p.node.0)
  new_ends p c =
      let free : is_open nodes p.node.0 ≡ true = h.within p (of_t p c) in
      let was : shut_ends m ends nodes p.node.0 ≡ 0 = rw free refl in
      let is : shut_ends m ends next p.node.0 ≡ ends p.node.0 = rw (shut p c) refl in
      (below p.node.0 free, was, omega (arith, is))

  ends_counted : sum_below (shut_ends m ends nodes) m + sum_by ends_at closing ≤ sum_below (shut_ends m ends next) m
  ends_counted =
      let adds : sum_below (shut_ends m ends nodes) m + sum_by ends (map (λ (p : Place). p.node.0) closing)
      ≤ sum_below (shut_ends m ends next) m =
      sum_adds m (map (λ (p : Place). p.node.0) closing) (shut_ends m ends nodes) ends (shut_ends m ends next)
      keys_differ
      (all_from_contains
      (λ k. (k < m) × (shut_ends m ends nodes k ≡ 0) × (ends k ≤ shut_ends m ends next k))
      (map (λ (p : Place). p.node.0) closing)
      (mapped (λ k. (k < m) × (shut_ends m ends nodes k ≡ 0) × (ends k ≤ shut_ends m ends next k))
      (λ (p : Place). p.node.0) closing new_ends)) ends_more in
      omega (arith, adds, sum_mapped closing ends_at ends are.are)

  -- of a closed trail's class neither an open place nor one with ends is left
  open_none : (p : Place) (v : ℕ) → Contains closing p → IsTrail ends_at kept closing p
      → class_of es v ≡ class_of es p.node.0 → At t v → is_open next v ≡ true → ⊥
  open_none p v c trail same at free =
      let class : at.it.class.0 ≡ p.class.0 = h.coarse at.it p at.there (of_t p c) (ap (class_of es) at.node ∙ same) in
      both_ways (has_class kept p.class.0) trail.none_kept
      (test_there (λ (q : Place). q.class.0 == p.class.0) kept at.it
      (to_kept es nodes next t h fewer at.it at.there (ap (is_open next) at.node ∙ free))
      (eq-eqb at.it.class.0 p.class.0 class))

  ends_none : (p : Place) (v : ℕ) → Contains closing p → IsTrail ends_at kept closing p
      → class_of es v ≡ class_of es p.node.0 → ends v ≢ 0 → ⊥
  ends_none p v c trail same some =
      let at : At t v = held p v (of_t p c) trail.unflagged some same in
      elim (cases_Bool (is_open next v)) [
        | inl free ↦ open_none p v c trail same at free
        | inr closed ↦ both_ways (has_ends ends_at closing p.class.0) trail.no_ends
            (seen es nodes next t h fewer ends_at ends are held p v (of_t p c) at some same closed)
      ]

  dead : (p : Place) (v : ℕ) → Contains closing p → IsTrail ends_at kept closing p
      → class_of es v ≡ class_of es p.node.0 → alive m ends next v ≡ false
  dead p v c trail same =
      or_from (is_open next v) (not (ends v == 0)) (false_from_ne_true (is_open next v) shut_node)
      (none (cases_eq (ends v) 0))
    where
      none : (ends v ≡ 0) ⊎ (ends v ≢ 0) → not (ends v == 0) ≡ false
      none (inl e) = ap not (eq-eqb (ends v) 0 e)
      none (inr some) = absurd (ends_none p v c trail same some)

      shut_node : is_open next v ≡ true → ⊥
      shut_node free = elim (cases_Bool (is_met es v)) [
        | inl k ↦ open_none p v c trail same (h.there v (fewer v free) k) free
        | inr unmet ↦ both_ways (is_open next p.node.0) (shut p c)
            (ap (is_open next) (unmet_alone es p.node.0 v unmet (sym same)) ∙ free)
      ]

  new_trail : (p : Place) → Contains (filter is_trail closing) p
      → IsNew m (is_closed_at m ends es nodes) (is_closed_at m ends es next) (class_of es p.node.0)
  new_trail p f =
      let c : Contains closing p = (passes_from is_trail closing p f).there in
      let trail : IsTrail ends_at kept closing p =
      trail_from ends_at kept closing p (passes_from is_trail closing p f).passes in
      let free : is_open nodes p.node.0 ≡ true = h.within p (of_t p c) in
      let within : p.node.0 < m = below p.node.0 free in
      let edge : has_edge es (class_of es p.node.0) ≡ true =
      met_has (class_of es) es p.node.0 (least_labels (fingers_of es)) (was_met es p.node.0 (h.met p (of_t p c))) in
      let none : size_in m (class_of es) (alive m ends next) (class_of es p.node.0) ≡ 0 =
      size_in_none m (class_of es) (alive m ends next) (class_of es p.node.0) (λ u same. dead p u c trail same) in (
        omega (arith, within, least_le (fingers_of es) p.node.0),
        false_from_ne_true (is_closed_at m ends es nodes (class_of es p.node.0))
            (λ closed. none_alive m ends es nodes (class_of es p.node.0) p.node.0 closed within
            (or_left (is_open nodes p.node.0) (not (ends p.node.0 == 0)) free) refl),
        and_from (has_edge es (class_of es p.node.0))
            (size_in m (class_of es) (alive m ends next) (class_of es p.node.0) == 0) edge
            (eq-eqb (size_in m (class_of es) (alive m ends next) (class_of es p.node.0)) 0 none),
      )

  -- two closed trails are of two classes
  trails_differ : (p q : Place) → Contains (filter is_trail closing) p → Contains (filter is_trail closing) q
      → p.node.0 ≢ q.node.0 → class_of es p.node.0 ≢ class_of es q.node.0
  trails_differ p q cp cq differ same =
      let a : Passes is_trail closing p = passes_from is_trail closing p cp in
      let b : Passes is_trail closing q = passes_from is_trail closing q cq in
      differ ((trail_from ends_at kept closing p a.passes).lead ∙ h.coarse p q (of_t p a.there) (of_t q b.there) same
      ∙ sym (trail_from ends_at kept closing q b.passes).lead)

  still_closed : (k : ℕ) → is_closed_at m ends es nodes k ≡ true → is_closed_at m ends es next k ≡ true
  still_closed k closed =
      let parts : (has_edge es k ≡ true) × ((size_in m (class_of es) (alive m ends nodes) k == 0) ≡ true) =
      and_parts (has_edge es k) (size_in m (class_of es) (alive m ends nodes) k == 0) closed in
      let fewer_in : size_in m (class_of es) (alive m ends next) k ≤ size_in m (class_of es) (alive m ends nodes) k =
      size_mono m (λ u. (class_of es u == k) && alive m ends next u)
      (λ u. (class_of es u == k) && alive m ends nodes u) (λ u l e. more_alive u e) in
      let none : size_in m (class_of es) (alive m ends next) k ≡ 0 =
      omega (arith, fewer_in, eqb-true (size_in m (class_of es) (alive m ends nodes) k) 0 parts.1) in
      and_from (has_edge es k) (size_in m (class_of es) (alive m ends next) k == 0) parts.0
      (eq-eqb (size_in m (class_of es) (alive m ends next) k) 0 none)
    where
      more_alive : (u : ℕ) → ((class_of es u == k) && alive m ends next u) ≡ true
          → ((class_of es u == k) && alive m ends nodes u) ≡ true
      more_alive u e =
          let parts : ((class_of es u == k) ≡ true) × (alive m ends next u ≡ true) =
          and_parts (class_of es u == k) (alive m ends next u) e in
          and_from (class_of es u == k) (alive m ends nodes u) parts.0
          (elim (or_cases (is_open next u) (not (ends u == 0)) parts.1) [
            | inl free ↦ or_left (is_open nodes u) (not (ends u == 0)) (fewer u free)
            | inr some ↦ or_right (is_open nodes u) (not (ends u == 0)) some
          ])

  trail_keys : List ℕ
  trail_keys = map (λ (p : Place). class_of es p.node.0) (filter is_trail closing)

  trails_counted : size m (is_closed_at m ends es nodes) + count_by is_trail closing
      ≤ size m (is_closed_at m ends es next)
  unfolding trail_keys
  trails_counted =
      let adds : size m (is_closed_at m ends es nodes) + length trail_keys ≤ size m (is_closed_at m ends es next) =
      size_adds m trail_keys (is_closed_at m ends es nodes) (is_closed_at m ends es next)
      (pairs_map (λ (p q : Place). p.node.0 ≢ q.node.0) (Contains (filter is_trail closing)) (λ (a b : ℕ). a ≢ b)
      (λ (p : Place). class_of es p.node.0) (filter is_trail closing) trails_differ
      (all_from_contains (Contains (filter is_trail closing)) (filter is_trail closing) (λ p c. c))
      (AllPairs-filter (λ (p q : Place). p.node.0 ≢ q.node.0) is_trail closing apart))
      (all_from_contains (IsNew m (is_closed_at m ends es nodes) (is_closed_at m ends es next)) trail_keys
      (mapped (IsNew m (is_closed_at m ends es nodes) (is_closed_at m ends es next))
      (λ (p : Place). class_of es p.node.0) (filter is_trail closing) new_trail))
      still_closed in
      omega (
        arith,
        adds,
        length-map (filter is_trail closing) (λ (p : Place). class_of es p.node.0),
        length-filter is_trail closing,
      )

  pub gate_settled : settled m ends es nodes + ends_settled ends_at kept closing ≤ settled m ends es next
  gate_settled = omega (arith, ends_counted, trails_counted)
