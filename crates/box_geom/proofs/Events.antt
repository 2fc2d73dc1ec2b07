-- The events of two lists of rectangles, in order, give the ranges of what the operation makes of their columns.
use Rattle.std.proofs.Common.{◌≡◌, ◌↔◌, suc, ◌+◌, ℤ, ◌≤ℤ◌, ◌<ℤ◌, List, [], ◌∷◌, Bool, true, false, int_lt, get_or, IsPermutation, arith, inl, inr, ◌⊎◌, refl, sym, subst}
use Rattle.std.specs.List.{Contains, flat_map}
use Rattle.std.specs.List.Sorted.{IsSorted}
use Rattle.std.specs.Ordering.{is_lt}
use Rattle.std.proofs.lemmas.Int.{ints, by_lt_z}
use Rattle.std.proofs.lemmas.List.Elements.{Contains-append_left, Contains-append_right}
use Rattle.std.proofs.lemmas.List.Sorted.{Contains-permutation, IsPermutation-sym}
use Rattle.cell_num.proofs.In.{In, From, contains_in, in_contains, in_append, in_pieces, contains_flat}
use Rattle.box_geom.specs.Rectangle.{Rectangle}
use Rattle.box_geom.specs.Ranges.{Hit, all_joined}
use Rattle.box_geom.specs.Sweeping.{Meant, Spans, AreRangesOf, events_of, all_events, event_cmp, slots, all_slots}
use Rattle.box_geom.specs.declared.ranges.XRange.{XRange}
use Rattle.box_geom.specs.declared.sweep.Event.{Event}
use Rattle.box_geom.specs.declared.sweep.Operation.{Operation}
use Rattle.box_geom.specs.declared.sweep.Side.{Side}
use Rattle.box_geom.specs.declared.sweep.Side.TheVariants.{First, Second}
use Rattle.box_geom.proofs.Joins.{all_joined_is}
use Rattle.box_geom.proofs.Sweeps.{reach, InOrder, At, AreEnded, Reached, meant_like, meant_none, slots_rising, slots_hold, none_below, none_early}

in_turn : (e f : Event) → is_lt (event_cmp f e) ≡ false → e.at ≤ℤ f.at
in_turn e f q = by (int_lt f.at e.at) refl
  where
    by : (b : Bool) → int_lt f.at e.at ≡ b → e.at ≤ℤ f.at
    by true t = absurd (cc (first t))
      where
        first : int_lt f.at e.at ≡ true → is_lt (event_cmp f e) ≡ true
        first h = rw h refl
    by false t = omega (arith, ints)

tail_sorted : (e : Event) (es : List Event) → IsSorted event_cmp (e ∷ es) → IsSorted event_cmp es
tail_sorted e es up k d low lt = let q : suc k + 1 ≡ suc (k + 1) = omega arith in subst (λ j. is_lt (event_cmp (get_or (e ∷ es) j d) (get_or es k d)) ≡ false) q (up (suc k) d (omega arith) (omega arith))

abbrev Starts : ℤ → List Event → Type 0
Starts low [] = Unit {0}
Starts low (e ∷ es) = low ≤ℤ e.at

in_order : (es : List Event) (low : ℤ) → IsSorted event_cmp es → Starts low es → InOrder low es
in_order [] low up starts = tt
in_order (e ∷ []) low up starts = (starts, tt)
in_order (e ∷ f ∷ fs) low up starts = (starts, in_order (f ∷ fs) e.at (tail_sorted e (f ∷ fs) up) (in_turn e f (up 0 e (omega arith) (omega arith))))

abbrev side_of : Side → List Rectangle → List Rectangle → List Rectangle
side_of First a b = a
side_of Second a b = b

abbrev begin_of : Side → Rectangle → Event
begin_of First r = record { at = r.x1; first = r.x2; second = r.x1 }
begin_of Second r = record { at = r.x1; first = r.x1; second = r.x2 }

abbrev end_of : Rectangle → Event
end_of r = record { at = r.x2; first = r.x2; second = r.x2 }

-- where an event comes from
record Origin (a b : List Rectangle) (e : Event) : Type 0 where
  side : Side
  rect : Rectangle
  listed : In (side_of side a b) rect
  is : (begin_of side rect ≡ e) ⊎ (end_of rect ≡ e)

origin_of : (a b : List Rectangle) (side : Side) (e : Event) → From (events_of side) (side_of side a b) e → Origin a b e
origin_of a b First e f = record { side = First; rect = f.of; listed = f.listed; is = elim f.inside [ inl q ↦ inl q | inr q ↦ inr (elim q [ inl r ↦ r | inr r ↦ absurd r ]) ] }
origin_of a b Second e f = record { side = Second; rect = f.of; listed = f.listed; is = elim f.inside [ inl q ↦ inl q | inr q ↦ inr (elim q [ inl r ↦ r | inr r ↦ absurd r ]) ] }

origin : (a b : List Rectangle) (e : Event) → In (all_events a b) e → Origin a b e
origin a b e i =
    elim (in_append (flat_map (events_of First) a) (flat_map (events_of Second) b) e i) [
      | inl l ↦ origin_of a b First e (in_pieces (events_of First) a e l)
      | inr r ↦ origin_of a b Second e (in_pieces (events_of Second) b e r)
    ]

begins : (a b : List Rectangle) (side : Side) (r : Rectangle) → Contains (side_of side a b) r → Contains (all_events a b) (begin_of side r)
begins a b First r c = Contains-append_left (flat_map (events_of First) a) (flat_map (events_of Second) b) _ (contains_flat (events_of First) a r _ c (in_contains (events_of First r) _ (inl refl)))
begins a b Second r c = Contains-append_right (flat_map (events_of First) a) (flat_map (events_of Second) b) _ (contains_flat (events_of Second) b r _ c (in_contains (events_of Second r) _ (inl refl)))

ends : (a b : List Rectangle) (side : Side) (r : Rectangle) → Contains (side_of side a b) r → Contains (all_events a b) (end_of r)
ends a b First r c = Contains-append_left (flat_map (events_of First) a) (flat_map (events_of Second) b) _ (contains_flat (events_of First) a r _ c (in_contains (events_of First r) _ (inr (inl refl))))
ends a b Second r c = Contains-append_right (flat_map (events_of First) a) (flat_map (events_of Second) b) _ (contains_flat (events_of Second) b r _ c (in_contains (events_of Second r) _ (inr (inl refl))))

-- the events of the two lists in some order
record AreEventsOf (a b : List Rectangle) (es : List Event) : Type 0 where
  from : (e : Event) → In es e → Origin a b e
  begun : (side : Side) (r : Rectangle) → Contains (side_of side a b) r → In es (begin_of side r)
  ended : (side : Side) (r : Rectangle) → Contains (side_of side a b) r → In es (end_of r)

events_are : (a b : List Rectangle) (es : List Event) → IsPermutation (all_events a b) es → AreEventsOf a b es
events_are a b es p = record {
  from = λ e i. origin a b e (contains_in (all_events a b) e (Contains-permutation es (all_events a b) e (IsPermutation-sym (all_events a b) es p) (in_contains es e i)));
  begun = λ side r c. contains_in es (begin_of side r) (Contains-permutation (all_events a b) es (begin_of side r) p (begins a b side r c));
  ended = λ side r c. contains_in es (end_of r) (Contains-permutation (all_events a b) es (end_of r) p (ends a b side r c));
}

-- beyond its own place an event reaches to the end of its rectangle alone
reach_end : (side other : Side) (r : Rectangle) (e : Event) → (begin_of other r ≡ e) ⊎ (end_of r ≡ e) → (x : ℤ) → e.at ≤ℤ x → x <ℤ reach side e → (side ≡ other) × (r.x1 ≤ℤ x) × (reach side e ≡ r.x2)
reach_end First First r e (inl q) x l h = subst (λ (z : Event). z.at ≤ℤ x → x <ℤ z.first → (First ≡ First) × (r.x1 ≤ℤ x) × (z.first ≡ r.x2)) q (λ m n. (refl, m, refl)) l h
reach_end First Second r e (inl q) x l h = absurd (subst (λ (z : Event). z.at ≤ℤ x → x <ℤ z.first → ⊥) q (λ m n. omega (arith, ints)) l h)
reach_end Second First r e (inl q) x l h = absurd (subst (λ (z : Event). z.at ≤ℤ x → x <ℤ z.second → ⊥) q (λ m n. omega (arith, ints)) l h)
reach_end Second Second r e (inl q) x l h = subst (λ (z : Event). z.at ≤ℤ x → x <ℤ z.second → (Second ≡ Second) × (r.x1 ≤ℤ x) × (z.second ≡ r.x2)) q (λ m n. (refl, m, refl)) l h
reach_end First other r e (inr q) x l h = absurd (subst (λ (z : Event). z.at ≤ℤ x → x <ℤ z.first → ⊥) q (λ m n. omega (arith, ints)) l h)
reach_end Second other r e (inr q) x l h = absurd (subst (λ (z : Event). z.at ≤ℤ x → x <ℤ z.second → ⊥) q (λ m n. omega (arith, ints)) l h)

spans_reached : (a b : List Rectangle) (es : List Event) → AreEventsOf a b es → (side : Side) (x : ℤ) → Reached side es x ↔ Spans (side_of side a b) x
spans_reached a b es are side x = (there, back side)
  where
    there : Reached side es x → Spans (side_of side a b) x
    there r =
        let o = are.from r.event r.listed in
        let q = reach_end side o.side o.rect r.event o.is x r.begun r.beyond in
        let h = r.beyond in
        let end = q.2 in
        record { rect = o.rect; listed = subst (λ s. Contains (side_of s a b) o.rect) (sym q.0) (in_contains (side_of o.side a b) o.rect o.listed); from = q.1; to = omega (arith, ints) }

    back : (s : Side) → Spans (side_of s a b) x → Reached s es x
    back First c = record { event = begin_of First c.rect; listed = are.begun First c.rect c.listed; begun = c.from; beyond = c.to }
    back Second c = record { event = begin_of Second c.rect; listed = are.begun Second c.rect c.listed; begun = c.from; beyond = c.to }

are_ended : (a b : List Rectangle) (e : Event) (es : List Event) → AreEventsOf a b (e ∷ es) → InOrder e.at es → AreEnded (e ∷ es) es
are_ended a b e es are o = record { ends = λ d i side h. found d i side h }
  where
    low : (d : Event) → In (e ∷ es) d → e.at ≤ℤ d.at
    low d i = none_early e.at (e ∷ es) d (omega (arith, ints), o) i

    later : (z : ℤ) (f : Event) → e.at <ℤ z → f.at ≡ z → In (e ∷ es) f → At es z
    later z f h is (inl same) = let k : e.at ≡ z = subst (λ (w : Event). w.at ≡ z) (sym same) is in absurd (omega (arith, ints))
    later z f h is (inr more) = record { event = f; listed = more; is = is }

    found : (d : Event) → In (e ∷ es) d → (side : Side) → d.at <ℤ reach side d → At es (reach side d)
    found d i side h =
        let q = are.from d i in
        let r = reach_end side q.side q.rect d q.is d.at (omega (arith, ints)) h in
        let l = low d i in
        let end = r.2 in
        later (reach side d) (end_of q.rect) (omega (arith, ints)) (sym r.2) (are.ended q.side q.rect (in_contains (side_of q.side a b) q.rect q.listed))

slots_of_spans : (op : Operation) (a b : List Rectangle) (e : Event) (es : List Event) → AreEventsOf a b (e ∷ es) → InOrder e.at es → (x : ℤ) → Hit (slots op e es) x ↔ Meant op (Spans a x) (Spans b x)
slots_of_spans op a b e es are o x = by_lt_z x e.at (λ less. early less) (λ most. late (slots_hold op e es x o (are_ended a b e es are o) most))
  where
    first : Reached First (e ∷ es) x ↔ Spans a x
    first = spans_reached a b (e ∷ es) are First x

    second : Reached Second (e ∷ es) x ↔ Spans b x
    second = spans_reached a b (e ∷ es) are Second x

    none : (side : Side) → x <ℤ e.at → Reached side (e ∷ es) x → ⊥
    none side less r = let n = none_early e.at (e ∷ es) r.event (omega (arith, ints), o) r.listed in let b = r.begun in omega (arith, ints)

    early : x <ℤ e.at → Hit (slots op e es) x ↔ Meant op (Spans a x) (Spans b x)
    early less = (λ h. absurd (none_below e.at (slots op e es) x (slots_rising op e es e.at (omega (arith, ints)) o) less h), λ m. absurd (meant_none op (Spans a x) (Spans b x) (λ c. none First less (first.1 c)) (λ c. none Second less (second.1 c)) m))

    late : (Hit (slots op e es) x ↔ Meant op (Reached First (e ∷ es) x) (Reached Second (e ∷ es) x)) → Hit (slots op e es) x ↔ Meant op (Spans a x) (Spans b x)
    late (there, back) = (λ h. meant_like op _ _ _ _ first second (there h), λ m. back (meant_like op _ _ _ _ (first.1, first.0) (second.1, second.0) m))

nothing : (op : Operation) (a b : List Rectangle) → AreEventsOf a b [] → (x : ℤ) → Meant op (Spans a x) (Spans b x) → ⊥
nothing op a b are x m = meant_none op (Spans a x) (Spans b x) (λ c. are.begun First c.rect c.listed) (λ c. are.begun Second c.rect c.listed) m

of_sorted : (op : Operation) (a b : List Rectangle) (es : List Event) → AreEventsOf a b es → IsSorted event_cmp es → AreRangesOf op a b (all_joined (all_slots op es))
of_sorted op a b [] are up = record { spread = tt; same = λ x. (λ h. absurd h, λ m. nothing op a b are x m) }
of_sorted op a b (e ∷ es) are up =
    let o : InOrder e.at (e ∷ es) = in_order (e ∷ es) e.at up (omega (arith, ints)) in
    let j = all_joined_is e.at (slots op e es) (slots_rising op e es e.at (omega (arith, ints)) o.1) in
    record {
      spread = j.spread;
      same = λ x. let s = slots_of_spans op a b e es are o.1 x in let k = j.same x in (λ h. s.0 (k.0 h), λ m. k.1 (s.1 m));
    }

pub ranges_are : (op : Operation) (a b : List Rectangle) (sorted : List Event) (spans made : List XRange) → IsPermutation (all_events a b) sorted → IsSorted event_cmp sorted → spans ≡ all_slots op sorted → made ≡ all_joined spans → AreRangesOf op a b made
ranges_are op a b sorted spans made p up e f = subst (AreRangesOf op a b) (sym f) (subst (λ z. AreRangesOf op a b (all_joined z)) (sym e) (of_sorted op a b sorted (events_are a b sorted p) up))
