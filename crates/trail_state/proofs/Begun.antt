-- The places that a choice begins with: those of the state, and the nodes that only the choice meets.
use Rattle.std.proofs.Common.{ℕ, ◌≡◌, ◌≢◌, ◌==◌, ◌||◌, Bool, true, false, List, [], ◌∷◌, Option, Some, None, refl, sym, ap, subst, ◌∙◌, inl, inr, ◌⊎◌, AllPairs, Contains}
use Rattle.std.specs.List.{find}
use Rattle.std.proofs.lemmas.Bool.{both_ways, cases_Bool, eq-eqb, eqb-true, false_from_ne_true, or_cases, or_left, or_right}
use Rattle.cell_num.proofs.Lists.{Kept, contains_filter_map, contains_here, contains_there, kept_from, some_same}
use Rattle.cell_num.proofs.Pairs.{Some', test_finds, test_there}
use Rattle.trail_state.specs.declared.edge.Node.{Node}
use Rattle.trail_state.specs.declared.edge.Edge.{Edge}
use Rattle.trail_state.specs.declared.state.Place.{Place}
use Rattle.trail_state.specs.Places.{is_end, is_met, met_place, met_places, new_place, or_met, place_of}
use Rattle.trail_state.specs.Settling.{is_open}
use Rattle.trail_state.proofs.Follows.{Follows}
use Rattle.trail_state.proofs.Links.{class_of, unmet_alone, unmet_even}
use Rattle.trail_state.proofs.Members.{At, Found, at_found, pairs_kept}

-- a place of the state, or a new one
abbrev pub Origin : List Place → List Edge → ℕ → Place → Type 0
Origin s c v p = (Contains s p × (p.node.0 ≡ v)) ⊎ ((At s v → ⊥) × (is_met c v ≡ true) × (p ≡ new_place v))

abbrev at_node : ℕ → Place → Bool
at_node v p = p.node.0 == v

none_some : (p : Place) → ◌≡◌ {A = Option Place} None (Some p) → ⊥
none_some p e = cc

not_there : (s : List Place) (v : ℕ) → find (at_node v) s ≡ None → At s v → ⊥
not_there s v none at = let f : Found (at_node v) s = at_found s v at in none_some f.it (sym none ∙ f.is)

find_on : (v : ℕ) (x : Place) (xs : List Place) → at_node v x ≡ true → find (at_node v) (x ∷ xs) ≡ Some x
find_on v x xs e = rw e refl

find_off : (v : ℕ) (x : Place) (xs : List Place) → at_node v x ≡ false → find (at_node v) (x ∷ xs) ≡ find (at_node v) xs
find_off v x xs e = rw e refl

-- what is found is a member with the node
found_place : (s : List Place) (v : ℕ) (p : Place) → find (at_node v) s ≡ Some p → Contains s p × (p.node.0 ≡ v)
found_place [] v p e = absurd (none_some p e)
found_place (x ∷ xs) v p e =
    elim (cases_Bool (at_node v x)) [
      | inl on ↦
          let same : x ≡ p = some_same x p (sym (find_on v x xs on) ∙ e) in
          (subst (Contains (x ∷ xs)) same (contains_here x xs), subst (λ (q : Place). q.node.0 ≡ v) same (eqb-true x.node.0 v on))
      | inr off ↦
          let rest : Contains xs p × (p.node.0 ≡ v) = found_place xs v p (sym (find_off v x xs off) ∙ e) in
          (contains_there x xs p rest.0, rest.1)
    ]

origin : (s : List Place) (c : List Edge) (v : ℕ) (p : Place) → met_place s c v ≡ Some p → Origin s c v p
origin s c v p e = at (place_of s v) refl
  where
    unmet : find (at_node v) s ≡ None → (b : Bool) → is_met c v ≡ b → or_met None b v ≡ Some p → Origin s c v p
    unmet is true m gives = inr (not_there s v is, m, sym (some_same (new_place v) p gives))
    unmet is false m gives = absurd (none_some p gives)

    at : (o : Option Place) → place_of s v ≡ o → Origin s c v p
    at (Some q) is =
        let same : q ≡ p = some_same q p (sym (ap (λ o. or_met o (is_met c v) v) is) ∙ e) in
        subst (Origin s c v) same (inl (found_place s v q is))
    at None is = unmet is (is_met c v) refl (sym (ap (λ o. or_met o (is_met c v) v) is) ∙ e)

-- a node that the state or the choice meets is given a place with the node
given : (s : List Place) (c : List Edge) (v : ℕ) → At s v ⊎ (is_met c v ≡ true) → (p : Place) × (met_place s c v ≡ Some p) × (p.node.0 ≡ v)
given s c v why = at (place_of s v) refl
  where
    unmet : find (at_node v) s ≡ None → (p : Place) × (or_met None (is_met c v) v ≡ Some p) × (p.node.0 ≡ v)
    unmet is = elim why [
      | inl there ↦ absurd (not_there s v is there)
      | inr m ↦ (new_place v, ap (λ b. or_met None b v) m, refl)
    ]

    at : (o : Option Place) → place_of s v ≡ o → (p : Place) × (met_place s c v ≡ Some p) × (p.node.0 ≡ v)
    at (Some q) is = (q, ap (λ o. or_met o (is_met c v) v) is, (found_place s v q is).1)
    at None is = let u : (p : Place) × (or_met None (is_met c v) v ≡ Some p) × (p.node.0 ≡ v) = unmet is in (u.0, ap (λ o. or_met o (is_met c v) v) is ∙ u.1, u.2)

-- the state of the edges so far, and a choice whose edges meet open nodes alone
module _ (c es : List Edge) (nodes : List Node) (s : List Place) (h : Follows es [] nodes s) (differ : AllPairs (λ (a b : Node). a.0 ≢ b.0) nodes) (open_ends : (v : ℕ) → is_met c v ≡ true → is_open nodes v ≡ true) where
  abbrev pub t : List Place
  t = met_places nodes s c

  abbrev pub g : Node → Option Place
  g v = met_place s c v.0

  from : (p : Place) → Contains t p → Kept g nodes p
  from p k = kept_from g nodes p k

  pub of : (p : Place) → Contains t p → Origin s c p.node.0 p
  of p k = let f : Kept g nodes p = from p k in named_by f.from.0 (origin s c f.from.0 p f.gives)
    where
      named_by : (v : ℕ) → Origin s c v p → Origin s c p.node.0 p
      named_by v (inl is) = inl (is.0, refl)
      named_by v (inr is) = let same : v ≡ p.node.0 = sym (ap (λ (q : Place). q.node.0) is.2) in subst (λ w. Origin s c w p) same (inr is)

  -- each node that the state or the choice meets has a place
  reached : (v : ℕ) → is_open nodes v ≡ true → At s v ⊎ (is_met c v ≡ true) → At t v
  reached v free why =
      let w : Some' (λ (n : Node). (n.0 == v) ≡ true) nodes = test_finds (λ (n : Node). n.0 == v) nodes free in
      let is : w.it.0 ≡ v = eqb-true w.it.0 v w.holds in
      let p : (p : Place) × (met_place s c v ≡ Some p) × (p.node.0 ≡ v) = given s c v why in
      record { it = p.0; there = contains_filter_map g nodes w.it p.0 w.there (ap (met_place s c) is ∙ p.1); node = p.2 }

  kept_at : (v : ℕ) → At s v → At t v
  kept_at v at = reached v (subst (λ u. is_open nodes u ≡ true) at.node (h.within at.it at.there)) (inl at)

  open_of : (p : Place) → Contains t p → is_open nodes p.node.0 ≡ true
  open_of p k = elim (of p k) [
    | inl old ↦ h.within p old.0
    | inr new ↦ open_ends p.node.0 new.1
  ]

  -- no edge so far meets a new node
  unmet : (p : Place) → Contains t p → (At s p.node.0 → ⊥) → is_met es p.node.0 ≡ false
  unmet p k new = false_from_ne_true (is_met es p.node.0) (λ m. new (h.there p.node.0 (open_of p k) m))

  of_new : (p : Place) → p ≡ new_place p.node.0 → (p.class.0 ≡ p.node.0) × (p.odd ≡ false) × (p.flagged ≡ false)
  of_new p is = (ap (λ (q : Place). q.class.0) is, ap (λ (q : Place). q.odd) is, ap (λ (q : Place). q.flagged) is)

  -- a place with the class of a new one is that one
  alone : (p q : Place) → Contains t q → p ≡ new_place p.node.0 → (At s p.node.0 → ⊥) → p.class.0 ≡ q.class.0 → p.flagged ≡ q.flagged
  alone p q k is new same = elim (of q k) [
    | inl old ↦ absurd (new (subst (At s) (sym same ∙ (of_new p is).0) (h.named q old.0)))
    | inr other ↦ (of_new p is).2 ∙ sym (of_new q other.2).2
  ]

  one_class : (p q : Place) → Contains t p → Contains t q → p ≡ new_place p.node.0 → (At s p.node.0 → ⊥) → class_of es p.node.0 ≡ class_of es q.node.0 → p.class.0 ≡ q.class.0
  one_class p q kp kq is new same =
      let one : q.node.0 ≡ p.node.0 = unmet_alone es q.node.0 p.node.0 (unmet p kp new) (sym same) in
      elim (of q kq) [
        | inl old ↦ absurd (new (record { it = q; there = old.0; node = one }))
        | inr other ↦ (of_new p is).0 ∙ sym one ∙ sym (of_new q other.2).0
      ]

  node_given : (v : ℕ) (p : Place) → met_place s c v ≡ Some p → p.node.0 ≡ v
  node_given v p e = elim (origin s c v p e) [
    | inl old ↦ old.1
    | inr new ↦ ap (λ (q : Place). q.node.0) new.2
  ]

  was_met : (p : Place) → (is_met es p.node.0 || is_met [] p.node.0) ≡ true → is_met es p.node.0 ≡ true
  was_met p m = elim (or_cases (is_met es p.node.0) (is_met [] p.node.0) m) [ inl held ↦ held | inr none ↦ absurd (both_ways false refl none) ]

  met_by : (e : Edge) (v : ℕ) → Contains c e → is_end v e ≡ true → is_met c v ≡ true
  met_by e v k end = test_there (is_end v) c e k end

  coming_at : (v : ℕ) → is_met c v ≡ true → At t v
  coming_at v m = reached v (open_ends v m) (inr m)

  pub begun : Follows es c nodes t
  begun = record {
    apart = pairs_kept (λ (a b : Node). a.0 ≢ b.0) (λ (p q : Place). p.node.0 ≢ q.node.0) g nodes (λ a b p q ab gp gq e. ab (sym (node_given a.0 p gp) ∙ e ∙ node_given b.0 q gq)) differ;
    within = open_of;
    odd = λ p k. elim (of p k) [
      | inl old ↦ h.odd p old.0
      | inr new ↦ (of_new p new.2).1 ∙ sym (unmet_even es p.node.0 (unmet p k new.0))
    ];
    coarse = λ p q kp kq same. elim (of p kp) [
      | inl old_p ↦ elim (of q kq) [
        | inl old_q ↦ h.coarse p q old_p.0 old_q.0 same
        | inr new ↦ sym (one_class q p kq kp new.2 new.0 (sym same))
      ]
      | inr new ↦ one_class p q kp kq new.2 new.0 same
    ];
    named = λ p k. elim (of p k) [
      | inl old ↦ kept_at p.class.0 (h.named p old.0)
      | inr new ↦ record { it = p; there = k; node = sym (of_new p new.2).0 }
    ];
    alike = λ p q kp kq same. elim (of p kp) [
      | inl old_p ↦ elim (of q kq) [
        | inl old_q ↦ h.alike p q old_p.0 old_q.0 same
        | inr new ↦ sym (alone q p kp new.2 new.0 (sym same))
      ]
      | inr new ↦ alone p q kq new.2 new.0 same
    ];
    known = λ p v k none odd same. elim (of p k) [
      | inl old ↦ kept_at v (h.known p v old.0 none odd same)
      | inr new ↦ record { it = p; there = k; node = sym (unmet_alone es v p.node.0 (unmet p k new.0) same) }
    ];
    there = λ v free m. kept_at v (h.there v free m);
    met = λ p k. elim (of p k) [
      | inl old ↦ or_left (is_met es p.node.0) (is_met c p.node.0) (was_met p (h.met p old.0))
      | inr new ↦ or_right (is_met es p.node.0) (is_met c p.node.0) new.1
    ];
    coming = λ e k. (coming_at e.a.0 (met_by e e.a.0 k (or_left (e.a.0 == e.a.0) (e.b.0 == e.a.0) (eq-eqb e.a.0 e.a.0 refl))), coming_at e.b.0 (met_by e e.b.0 k (or_right (e.a.0 == e.b.0) (e.b.0 == e.b.0) (eq-eqb e.b.0 e.b.0 refl))));
  }
