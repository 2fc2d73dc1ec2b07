-- The places that stay once a gate is done follow the same edges.
use Rattle.std.proofs.Common.{ℕ, ◌≡◌, ◌≢◌, ◌==◌, ◌||◌, ◌&&◌, Bool, true, false, not, List, [], Option, Some, None, map, refl, sym, ap, ◌∙◌, inl, inr, Contains, unwrap_or, option_map}
use Rattle.std.specs.List.{find}
use Rattle.std.proofs.lemmas.Bool.{and_from, both_ways, cases_Bool, eq-eqb, eqb-true, not_from_false, or_parts}
use Rattle.std.proofs.lemmas.List.Kept.{AllPairs-filter}
use Rattle.cell_num.proofs.Lists.{all_from_contains, contains_none}
use Rattle.cell_num.proofs.Pairs.{pairs_map, test_there}
use Rattle.trail_state.specs.declared.edge.Node.{Node}
use Rattle.trail_state.specs.declared.edge.Edge.{Edge}
use Rattle.trail_state.specs.declared.state.Place.{Place}
use Rattle.trail_state.specs.Places.{is_met}
use Rattle.trail_state.specs.Settling.{closing_of, has_odd, is_open, kept_of, left_place, name_in, state_settled}
use Rattle.trail_state.proofs.Follows.{Follows}
use Rattle.trail_state.proofs.Links.{class_of, odd_at}
use Rattle.trail_state.proofs.Members.{At, Found, Passes, at_map, found_from, mapped, one_place, passes_from, passes_to}

abbrev pub of_class : ℕ → Place → Bool
of_class k q = q.class.0 == k

-- the name that a class of this name has among the places that stay
abbrev new_name : List Place → ℕ → ℕ
new_name kept k = unwrap_or (option_map (λ (q : Place). q.node.0) (find (of_class k) kept)) k

number_of : (o : Option Place) (c : Node) → (unwrap_or (option_map (λ (q : Place). q.node) o) c).0 ≡ unwrap_or (option_map (λ (q : Place). q.node.0) o) c.0
number_of None c = refl
number_of (Some q) c = refl

name_is : (kept : List Place) (p : Place) → (name_in kept p).0 ≡ new_name kept p.class.0
name_is kept p = number_of (find (of_class p.class.0) kept) p.class

-- all nodes that a later gate can meet are open now
abbrev pub AreFewer : List Node → List Node → Type 0
AreFewer next nodes = (v : ℕ) → is_open next v ≡ true → is_open nodes v ≡ true

module _ (es : List Edge) (nodes next : List Node) (t : List Place) (h : Follows es [] nodes t) (fewer : AreFewer next nodes) where
  abbrev pub kept : List Place
  kept = kept_of next t

  abbrev pub closing : List Place
  closing = closing_of next t

  abbrev pub stays : Place → Bool
  stays p = is_open next p.node.0

  abbrev pub g : Place → Place
  g p = left_place kept closing p

  pub of_kept : (p : Place) → Contains kept p → Passes stays t p
  of_kept p c = passes_from stays t p c

  pub of_closing : (p : Place) → Contains closing p → Passes (λ (q : Place). not (stays q)) t p
  of_closing p c = passes_from (λ (q : Place). not (stays q)) t p c

  pub to_kept : (p : Place) → Contains t p → is_open next p.node.0 ≡ true → Contains kept p
  to_kept p c free = passes_to stays t p c free

  pub to_closing : (p : Place) → Contains t p → is_open next p.node.0 ≡ false → Contains closing p
  to_closing p c shut = passes_to (λ (q : Place). not (stays q)) t p c (not_from_false (is_open next p.node.0) shut)

  pub kept_at : (v : ℕ) → At t v → is_open next v ≡ true → At kept v
  kept_at v at free = record { it = at.it; there = to_kept at.it at.there (ap (is_open next) at.node ∙ free); node = at.node }

  -- an odd node that closes is seen by the places of its class
  pub seen : (p : Place) (v : ℕ) → Contains t p → At t v → odd_at es v ≡ true → class_of es v ≡ class_of es p.node.0 → is_open next v ≡ false → has_odd closing p.class.0 ≡ true
  seen p v c at odd same shut =
      let r : Place = at.it in
      let class : r.class.0 ≡ p.class.0 = h.coarse r p at.there c (ap (class_of es) at.node ∙ same) in
      let is_odd : r.odd ≡ true = h.odd r at.there ∙ ap (odd_at es) at.node ∙ odd in
      test_there (λ (q : Place). (q.class.0 == p.class.0) && q.odd) closing r (to_closing r at.there (ap (is_open next) at.node ∙ shut))
      (and_from (r.class.0 == p.class.0) r.odd (eq-eqb r.class.0 p.class.0 class) is_odd)

  same_name : (p q : Place) → p.class.0 ≡ q.class.0 → (g p).class.0 ≡ (g q).class.0
  same_name p q e = name_is kept p ∙ ap (new_name kept) e ∙ sym (name_is kept q)

  -- the place that names the class of one that stays
  pub namer : (p : Place) → Contains kept p → Found (of_class p.class.0) kept
  namer p c = found_from (of_class p.class.0) kept p c (eq-eqb p.class.0 p.class.0 refl)

  pub named_by : (p : Place) (c : Contains kept p) → (g p).class.0 ≡ (namer p c).it.node.0
  named_by p c = name_is kept p ∙ ap (λ o. unwrap_or (option_map (λ (q : Place). q.node.0) o) p.class.0) (namer p c).is

  pub namer_class : (p : Place) (c : Contains kept p) → (namer p c).it.class.0 ≡ p.class.0
  namer_class p c = eqb-true (namer p c).it.class.0 p.class.0 (namer p c).passes

  -- places with one name were of one class
  was_one : (p q : Place) → Contains kept p → Contains kept q → (g p).class.0 ≡ (g q).class.0 → p.class.0 ≡ q.class.0
  was_one p q cp cq e =
      let a : Found (of_class p.class.0) kept = namer p cp in
      let b : Found (of_class q.class.0) kept = namer q cq in
      let one : a.it ≡ b.it = one_place t a.it b.it h.apart (of_kept a.it a.there).there (of_kept b.it b.there).there (sym (named_by p cp) ∙ e ∙ named_by q cq) in
      sym (namer_class p cp) ∙ ap (λ (r : Place). r.class.0) one ∙ namer_class q cq

  g_alike : (p q : Place) → Contains kept p → Contains kept q → (g p).class.0 ≡ (g q).class.0 → (g p).flagged ≡ (g q).flagged
  g_alike p q cp cq e =
      let class : p.class.0 ≡ q.class.0 = was_one p q cp cq e in
      ap (λ f. f || has_odd closing p.class.0) (h.alike p q (of_kept p cp).there (of_kept q cq).there class) ∙ ap (λ k. q.flagged || has_odd closing k) class

  g_known : (p : Place) (v : ℕ) → Contains kept p → (g p).flagged ≡ false → odd_at es v ≡ true → class_of es v ≡ class_of es p.node.0 → At kept v
  g_known p v c none odd same =
      let parts : (p.flagged ≡ false) × (has_odd closing p.class.0 ≡ false) = or_parts p.flagged (has_odd closing p.class.0) none in
      let at : At t v = h.known p v (of_kept p c).there parts.0 odd same in
      elim (cases_Bool (is_open next v)) [
        | inl free ↦ kept_at v at free
        | inr shut ↦ absurd (both_ways (has_odd closing p.class.0) parts.1 (seen p v (of_kept p c).there at odd same shut))
      ]

  moved : (v : ℕ) → At kept v → At (map g kept) v
  moved v at = at_map g kept v (λ q. refl) at

  pub settles : Follows es [] next (state_settled next t)
  settles = record {
    apart = pairs_map (λ (p q : Place). p.node.0 ≢ q.node.0) (Contains kept) (λ (p q : Place). p.node.0 ≢ q.node.0) g kept (λ p q _ _ differ. differ) (all_from_contains (Contains kept) kept (λ p c. c)) (AllPairs-filter (λ (p q : Place). p.node.0 ≢ q.node.0) stays t h.apart);
    within = mapped (λ (q : Place). is_open next q.node.0 ≡ true) g kept (λ p c. (of_kept p c).passes);
    odd = mapped (λ (q : Place). q.odd ≡ odd_at es q.node.0) g kept (λ p c. h.odd p (of_kept p c).there);
    coarse = λ p' q' cp cq. mapped (λ (a : Place). class_of es a.node.0 ≡ class_of es q'.node.0 → a.class.0 ≡ q'.class.0) g kept
        (λ p c. mapped (λ (b : Place). class_of es p.node.0 ≡ class_of es b.node.0 → (g p).class.0 ≡ b.class.0) g kept (λ q d same. same_name p q (h.coarse p q (of_kept p c).there (of_kept q d).there same)) q' cq) p' cp;
    named = mapped (λ (q : Place). At (map g kept) q.class.0) g kept (λ p c. moved (g p).class.0 (record { it = (namer p c).it; there = (namer p c).there; node = sym (named_by p c) }));
    alike = λ p' q' cp cq. mapped (λ (a : Place). a.class.0 ≡ q'.class.0 → a.flagged ≡ q'.flagged) g kept
        (λ p c. mapped (λ (b : Place). (g p).class.0 ≡ b.class.0 → (g p).flagged ≡ b.flagged) g kept (λ q d. g_alike p q c d) q' cq) p' cp;
    known = λ p' v c. mapped (λ (a : Place). a.flagged ≡ false → odd_at es v ≡ true → class_of es v ≡ class_of es a.node.0 → At (map g kept) v) g kept
        (λ p d none odd same. moved v (g_known p v d none odd same)) p' c;
    there = λ v free m. moved v (kept_at v (h.there v (fewer v free) m) free);
    met = mapped (λ (q : Place). (is_met es q.node.0 || is_met [] q.node.0) ≡ true) g kept (λ p c. h.met p (of_kept p c).there);
    coming = λ e c. absurd (contains_none e c);
  }
