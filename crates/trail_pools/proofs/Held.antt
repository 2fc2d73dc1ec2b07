-- Places that stand for ends elsewhere: a class without a flag has no place with ends but those of the list.
use Rattle.std.proofs.Common.{ℕ, ◌≡◌, ◌≢◌, ◌==◌, ◌||◌, true, false, List, [], ◌∷◌, refl, sym, ap, subst, ◌∙◌, inl, inr}
use Rattle.std.proofs.Common.{◌⊎◌, AllPairs, Contains, fold}
use Rattle.std.proofs.lemmas.Bool.{both_ways, cases_Bool, eq-eqb, false_from_ne_true, or_cases, or_left, or_parts}
use Rattle.std.proofs.lemmas.Bool.{or_right}
use Rattle.trail_state.specs.declared.edge.Node.{Node}
use Rattle.trail_state.specs.declared.edge.Edge.{Edge}
use Rattle.trail_state.specs.declared.state.Place.{Place}
use Rattle.trail_state.specs.Places.{is_joined, is_met, met_places, with_edge}
use Rattle.trail_state.specs.Settling.{is_open}
use Rattle.trail_state.proofs.Begun.{begun, of}
use Rattle.trail_state.proofs.Follows.{Follows, added, edge_follows, flag_joined, flag_stays, g, which, x, x_at, y}
use Rattle.trail_state.proofs.Follows.{y_at}
use Rattle.trail_state.proofs.Links.{class_of, joined_same, unmet_alone}
use Rattle.trail_state.proofs.Members.{At, at_map, mapped}

-- no edges meet nothing
pub was_met : (es : List Edge) (v : ℕ) → (is_met es v || is_met [] v) ≡ true → is_met es v ≡ true
was_met es v m = elim (or_cases (is_met es v) (is_met [] v) m) [
  | inl held ↦ held
  | inr none ↦ absurd (both_ways false refl none)
]

-- the places with ends, by the numbers of their nodes
module _ (ends : ℕ → ℕ) where
  -- a place with ends of a class without a flag is in the list
  abbrev pub Held : List Edge → List Place → Type 0
  Held es t =
      (p : Place) (v : ℕ) → Contains t p → p.flagged ≡ false → ends v ≢ 0 → class_of es v ≡ class_of es p.node.0
      → At t v

  module _ (c es : List Edge) (nodes : List Node) (s : List Place) (h : Follows es [] nodes s)
      (differ : AllPairs (λ (a b : Node). a.0 ≢ b.0) nodes)
      (open_ends : (v : ℕ) → is_met c v ≡ true → is_open nodes v ≡ true) (held : Held es s) where
    pub begun_held : Held es (met_places nodes s c)
    begun_held p v k none some same = elim (of c es nodes s h differ open_ends p k) [
      | inl old ↦
          let at : At s v = held p v old.0 none some same in
          (begun c es nodes s h differ open_ends).there v
          (subst (λ u. is_open nodes u ≡ true) at.node (h.within at.it at.there))
          (subst (λ u. is_met es u ≡ true) at.node (was_met es at.it.node.0 (h.met at.it at.there)))
      | inr new ↦
          let unmet : is_met es p.node.0 ≡ false =
          false_from_ne_true (is_met es p.node.0)
          (λ m. new.0 (h.there p.node.0 ((begun c es nodes s h differ open_ends).within p k) m)) in
          record { it = p; there = k; node = sym (unmet_alone es v p.node.0 unmet same) }
    ]

  module _ (e : Edge) (es left : List Edge) (nodes : List Node) (t : List Place) (h : Follows es (e ∷ left) nodes t)
      (held : Held es t) where
    abbrev a : Place
    a = x e es left nodes t h

    abbrev b : Place
    b = y e es left nodes t h

    abbrev to : Place → Place
    to = g e es left nodes t h

    is_either : (p : Place) → (p.class.0 ≡ a.class.0) ⊎ (p.class.0 ≡ b.class.0) → is_joined a b p ≡ true
    is_either p (inl k) = or_left (p.class.0 == a.class.0) (p.class.0 == b.class.0) (eq-eqb p.class.0 a.class.0 k)
    is_either p (inr k) = or_right (p.class.0 == a.class.0) (p.class.0 == b.class.0) (eq-eqb p.class.0 b.class.0 k)

    of_either : (p : Place) → Contains t p
        → (class_of es p.node.0 ≡ class_of es e.a.0) ⊎ (class_of es p.node.0 ≡ class_of es e.b.0)
        → is_joined a b p ≡ true
    of_either p c (inl k) =
        is_either p (inl (h.coarse p a c (x_at e es left nodes t h).there
        (k ∙ ap (class_of es) (sym (x_at e es left nodes t h).node))))
    of_either p c (inr k) =
        is_either p (inr (h.coarse p b c (y_at e es left nodes t h).there
        (k ∙ ap (class_of es) (sym (y_at e es left nodes t h).node))))

    no_flags : (p : Place) → is_joined a b p ≡ true → (to p).flagged ≡ false
        → (a.flagged ≡ false) × (b.flagged ≡ false)
    no_flags p on none = or_parts a.flagged b.flagged (sym (flag_joined a b p on) ∙ none)

    was_unflagged : (p : Place) → Contains t p → (to p).flagged ≡ false → p.flagged ≡ false
    was_unflagged p c none = elim (cases_Bool (is_joined a b p)) [
      | inl on ↦ elim (which a b p on) [
        | inl k ↦ h.alike p a c (x_at e es left nodes t h).there k ∙ (no_flags p on none).0
        | inr k ↦ h.alike p b c (y_at e es left nodes t h).there k ∙ (no_flags p on none).1
      ]
      | inr off ↦ sym (flag_stays a b p off) ∙ none
    ]

    inner : (p : Place) (v : ℕ) → Contains t p → (to p).flagged ≡ false → ends v ≢ 0
        → class_of (e ∷ es) v ≡ class_of (e ∷ es) p.node.0 → At t v
    inner p v c none some same =
        elim (joined_same (class_of es e.a.0) (class_of es e.b.0) (class_of es v) (class_of es p.node.0) same) [
          | inl one ↦ held p v c (was_unflagged p c none) some one
          | inr both ↦ elim both.0 [
            | inl k ↦ held a v (x_at e es left nodes t h).there (no_flags p (of_either p c both.1) none).0 some
                (k ∙ ap (class_of es) (sym (x_at e es left nodes t h).node))
            | inr k ↦ held b v (y_at e es left nodes t h).there (no_flags p (of_either p c both.1) none).1 some
                (k ∙ ap (class_of es) (sym (y_at e es left nodes t h).node))
          ]
        ]

    pub edge_held : Held (e ∷ es) (with_edge t e)
    edge_held p' v k =
        mapped
        (λ (q : Place). q.flagged ≡ false → ends v ≢ 0 → class_of (e ∷ es) v ≡ class_of (e ∷ es) q.node.0
        → At (with_edge t e) v) to t
        (λ p c none some same. at_map to t v (λ q. refl) (inner p v c none some same)) p' k

  pub edges_held : (choice es : List Edge) (nodes : List Node) (t : List Place) → Follows es choice nodes t
      → Held es t → Held (added es choice) (fold with_edge t choice)
  edges_held [] es nodes t h held = held
  edges_held (e ∷ choice) es nodes t h held =
      edges_held choice (e ∷ es) nodes (with_edge t e) (edge_follows e es choice nodes t h)
      (edge_held e es choice nodes t h held)
