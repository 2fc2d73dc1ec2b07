-- The places that stay once a gate is done follow the same edges, and their flags are told by the ends that close.
use Rattle.std.proofs.Common.{ℕ, ◌≡◌, ◌≢◌, ◌==◌, ◌||◌, ◌&&◌, true, false, not, List, [], map, refl, sym, ap, ◌∙◌, inl}
use Rattle.std.proofs.Common.{inr, Contains}
use Rattle.std.specs.List.{find}
use Rattle.std.proofs.lemmas.Bool.{and_from, both_ways, cases_Bool, eq-eqb, ne_eqb, not_from_false, or_parts}
use Rattle.std.proofs.lemmas.List.Kept.{AllPairs-filter}
use Rattle.cell_num.proofs.Lists.{all_from_contains, contains_none, some_same}
use Rattle.cell_num.proofs.Pairs.{pairs_map, test_there}
use Rattle.trail_state.specs.declared.edge.Node.{Node}
use Rattle.trail_state.specs.declared.edge.Edge.{Edge}
use Rattle.trail_state.specs.declared.state.Place.{Place}
use Rattle.trail_state.specs.Places.{is_met}
use Rattle.trail_state.specs.Settling.{closing_of, is_open, kept_of}
use Rattle.trail_state.proofs.Follows.{Follows}
use Rattle.trail_state.proofs.Links.{class_of, odd_at}
use Rattle.trail_state.proofs.Members.{At, Found, at_map, mapped, one_place}
use Rattle.trail_state.proofs.Settles as places
use Rattle.trail_state.proofs.Settles.{AreFewer, of_class, to_closing}
use Rattle.trail_pools.specs.State.{has_ends, left_place, places_left}
use Rattle.trail_pools.proofs.Held.{Held}

-- the ends at places that close, by place and by number; an odd place that closes has some
pub record AreEnds (closing : List Place) (ends_at : Place → ℕ) (ends : ℕ → ℕ) : Type 0 where
  pub are : (p : Place) → Contains closing p → ends_at p ≡ ends p.node.0
  pub odd : (p : Place) → Contains closing p → p.odd ≡ true → ends p.node.0 ≢ 0

module _ (es : List Edge) (nodes next : List Node) (t : List Place) (h : Follows es [] nodes t)
    (fewer : AreFewer next nodes) (ends_at : Place → ℕ) (ends : ℕ → ℕ)
    (are : AreEnds (closing_of next t) ends_at ends) (held : Held ends es t) where
  abbrev kept : List Place
  kept = kept_of next t

  abbrev closing : List Place
  closing = closing_of next t

  abbrev to : Place → Place
  to p = left_place ends_at kept closing p

  was : (p : Place) → Contains kept p → Contains t p
  was p c = (places.of_kept es nodes next t h fewer p c).there

  -- a place with ends that closes is seen by the places of its class
  pub seen : (p : Place) (v : ℕ) → Contains t p → At t v → ends v ≢ 0 → class_of es v ≡ class_of es p.node.0
      → is_open next v ≡ false → has_ends ends_at closing p.class.0 ≡ true
  seen p v c at some same shut =
      let q : Place = at.it in
      let class : q.class.0 ≡ p.class.0 = h.coarse q p at.there c (ap (class_of es) at.node ∙ same) in
      let closes : Contains closing q = to_closing es nodes next t h fewer q at.there (ap (is_open next) at.node ∙ shut)
      in
      let is : ends_at q ≡ ends v = are.are q closes ∙ ap ends at.node in
      let has : (ends_at q == 0) ≡ false = ne_eqb (ends_at q) 0 (λ e. some (sym is ∙ e)) in
      test_there (λ (z : Place). (z.class.0 == p.class.0) && not (ends_at z == 0)) closing q closes
      (and_from (q.class.0 == p.class.0) (not (ends_at q == 0)) (eq-eqb q.class.0 p.class.0 class)
      (not_from_false (ends_at q == 0) has))

  -- a place of a class without a flag stays where it has ends
  stays_at : (p : Place) (v : ℕ) → Contains kept p → (to p).flagged ≡ false → At t v
      → (is_open next v ≡ false → ends v ≢ 0) → class_of es v ≡ class_of es p.node.0 → At kept v
  stays_at p v c none at some same = elim (cases_Bool (is_open next v)) [
    | inl free ↦ places.kept_at es nodes next t h fewer v at free
    | inr shut ↦ absurd (both_ways (has_ends ends_at closing p.class.0)
        (or_parts p.flagged (has_ends ends_at closing p.class.0) none).1
        (seen p v (was p c) at (some shut) same shut))
  ]

  unflagged : (p : Place) → (to p).flagged ≡ false → p.flagged ≡ false
  unflagged p none = (or_parts p.flagged (has_ends ends_at closing p.class.0) none).0

  -- the place that names the class
  abbrev namer : (p : Place) → Contains kept p → Found (of_class p.class.0) kept
  namer p c = places.namer es nodes next t h fewer p c

  named_by : (p : Place) (c : Contains kept p) → (to p).class.0 ≡ (namer p c).it.node.0
  named_by p c = places.named_by es nodes next t h fewer p c

  same_name : (p q : Place) → Contains kept p → Contains kept q → p.class.0 ≡ q.class.0
      → (to p).class.0 ≡ (to q).class.0
  same_name p q cp cq e =
      let one : (namer p cp).it ≡ (namer q cq).it =
      some_same (namer p cp).it (namer q cq).it
      (sym (namer p cp).is ∙ ap (λ k. find (of_class k) kept) e ∙ (namer q cq).is) in
      named_by p cp ∙ ap (λ (z : Place). z.node.0) one ∙ sym (named_by q cq)

  was_one : (p q : Place) → Contains kept p → Contains kept q → (to p).class.0 ≡ (to q).class.0
      → p.class.0 ≡ q.class.0
  was_one p q cp cq e =
      let one : (namer p cp).it ≡ (namer q cq).it =
      one_place t (namer p cp).it (namer q cq).it h.apart (was (namer p cp).it (namer p cp).there)
      (was (namer q cq).it (namer q cq).there) (sym (named_by p cp) ∙ e ∙ named_by q cq) in
      sym (places.namer_class es nodes next t h fewer p cp) ∙ ap (λ (z : Place). z.class.0) one
      ∙ places.namer_class es nodes next t h fewer q cq

  alike : (p q : Place) → Contains kept p → Contains kept q → (to p).class.0 ≡ (to q).class.0
      → (to p).flagged ≡ (to q).flagged
  alike p q cp cq e =
      let class : p.class.0 ≡ q.class.0 = was_one p q cp cq e in
      ap (λ b. b || has_ends ends_at closing p.class.0) (h.alike p q (was p cp) (was q cq) class)
      ∙ ap (λ k. q.flagged || has_ends ends_at closing k) class

  known : (p : Place) (v : ℕ) → Contains kept p → (to p).flagged ≡ false → odd_at es v ≡ true
      → class_of es v ≡ class_of es p.node.0 → At kept v
  known p v c none odd same =
      let at : At t v = h.known p v (was p c) (unflagged p none) odd same in
      stays_at p v c none at (λ shut. some at shut) same
    where
      some : (at : At t v) → is_open next v ≡ false → ends v ≢ 0
      some at shut =
          let closes : Contains closing at.it =
          to_closing es nodes next t h fewer at.it at.there (ap (is_open next) at.node ∙ shut) in
          λ e. are.odd at.it closes (h.odd at.it at.there ∙ ap (odd_at es) at.node ∙ odd) (ap ends at.node ∙ e)

  moved : (v : ℕ) → At kept v → At (map to kept) v
  moved v at = at_map to kept v (λ q. refl) at

  pub settles : Follows es [] next (places_left ends_at kept closing)
  settles = record {
    apart =
        pairs_map (λ (p q : Place). p.node.0 ≢ q.node.0) (Contains kept) (λ (p q : Place). p.node.0 ≢ q.node.0) to
        kept (λ p q _ _ differ. differ) (all_from_contains (Contains kept) kept (λ p c. c))
        (AllPairs-filter (λ (p q : Place). p.node.0 ≢ q.node.0) (λ (p : Place). is_open next p.node.0) t h.apart);
    within =
        mapped (λ (q : Place). is_open next q.node.0 ≡ true) to kept
        (λ p c. (places.of_kept es nodes next t h fewer p c).passes);
    odd = mapped (λ (q : Place). q.odd ≡ odd_at es q.node.0) to kept (λ p c. h.odd p (was p c));
    coarse = λ p' q' cp cq. mapped
        (λ (a : Place). class_of es a.node.0 ≡ class_of es q'.node.0 → a.class.0 ≡ q'.class.0) to kept
        (λ p c. mapped (λ (b : Place). class_of es p.node.0 ≡ class_of es b.node.0 → (to p).class.0 ≡ b.class.0) to
        kept (λ q d same. same_name p q c d (h.coarse p q (was p c) (was q d) same)) q' cq) p' cp;
    named = mapped (λ (q : Place). At (map to kept) q.class.0) to kept (λ p c. moved (to p).class.0
        (record { it = (namer p c).it; there = (namer p c).there; node = sym (named_by p c) }));
    alike = λ p' q' cp cq. mapped (λ (a : Place). a.class.0 ≡ q'.class.0 → a.flagged ≡ q'.flagged) to kept
        (λ p c. mapped (λ (b : Place). (to p).class.0 ≡ b.class.0 → (to p).flagged ≡ b.flagged) to kept
        (λ q d. alike p q c d) q' cq) p' cp;
    known = λ p' v c. mapped
        (λ (a : Place). a.flagged ≡ false → odd_at es v ≡ true → class_of es v ≡ class_of es a.node.0
        → At (map to kept) v) to kept
        (λ p d none odd same. moved v (known p v d none odd same)) p' c;
    there = λ v free m. moved v (places.kept_at es nodes next t h fewer v (h.there v (fewer v free) m) free);
    met = mapped (λ (q : Place). (is_met es q.node.0 || is_met [] q.node.0) ≡ true) to kept (λ p c. h.met p (was p c));
    coming = λ e c. absurd (contains_none e c);
  }

  pub still_held : Held ends es (places_left ends_at kept closing)
  still_held p' v c =
      mapped
      (λ (a : Place). a.flagged ≡ false → ends v ≢ 0 → class_of es v ≡ class_of es a.node.0 → At (map to kept) v) to
      kept
      (λ p d none some same. moved v (stays_at p v d none (held p v (was p d) (unflagged p none) some same)
      (λ shut. some) same)) p' c
