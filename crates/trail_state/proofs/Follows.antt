-- A list of places follows a list of edges: the classes that the edges chain, and the nodes that they meet an odd
-- number of times.
use Rattle.std.proofs.Common.{ℕ, ◌≡◌, ◌≢◌, ◌==◌, ◌||◌, Bool, true, false, not, if◌then◌else◌, min, List, [], ◌∷◌, map, refl, sym, ap, subst, arith, ◌∙◌, inl, inr, ◌⊎◌, Contains, fold}
use Rattle.std.proofs.lemmas.Bool.{both_ways, cases_Bool, cases_eq, cases_lt, eq-eqb, eqb-true, or_cases, or_left, or_right, or_parts}
use Rattle.cell_num.proofs.Lists.{all_from_contains, contains_here, contains_there}
use Rattle.cell_num.proofs.Pairs.{pairs_map}
use Rattle.row_trails.specs.Trails.{toggle, toggle_other}
use Rattle.trail_state.specs.declared.edge.Node.{Node}
use Rattle.trail_state.specs.declared.edge.Edge.{Edge}
use Rattle.trail_state.specs.declared.state.Place.{Place}
use Rattle.trail_state.specs.Places.{differ, is_end, is_joined, is_met, joined_place, node_at, place_or_new, with_edge}
use Rattle.trail_state.specs.Settling.{is_open}
use Rattle.trail_state.proofs.Links.{class_of, joined_same, odd_at, odd_more}
use Rattle.trail_state.proofs.Members.{AreApart, At, IsAt, at_map, mapped, or_new_at}

-- The places of all open nodes that the edges meet, and of those that the edges still to come meet.
pub record Follows (es left : List Edge) (nodes : List Node) (t : List Place) : Type 0 where
  pub apart : AreApart t
  pub within : (p : Place) → Contains t p → is_open nodes p.node.0 ≡ true
  pub odd : (p : Place) → Contains t p → p.odd ≡ odd_at es p.node.0
  -- nodes of one class of the edges are of one class here
  pub coarse : (p q : Place) → Contains t p → Contains t q → class_of es p.node.0 ≡ class_of es q.node.0 → p.class.0 ≡ q.class.0
  pub named : (p : Place) → Contains t p → At t p.class.0
  pub alike : (p q : Place) → Contains t p → Contains t q → p.class.0 ≡ q.class.0 → p.flagged ≡ q.flagged
  -- a class without a flag has no odd node elsewhere
  pub known : (p : Place) (v : ℕ) → Contains t p → p.flagged ≡ false → odd_at es v ≡ true → class_of es v ≡ class_of es p.node.0 → At t v
  pub there : (v : ℕ) → is_open nodes v ≡ true → is_met es v ≡ true → At t v
  pub met : (p : Place) → Contains t p → (is_met es p.node.0 || is_met left p.node.0) ≡ true
  pub coming : (e : Edge) → Contains left e → At t e.a.0 × At t e.b.0

-- the name of a class, once two are one
name_joined : ℕ → ℕ → ℕ → ℕ
name_joined a b k = if (k == a) || (k == b) then min a b else k

number_of : (b : Bool) (m : ℕ) (c : Node) → (if b then node_at m else c).0 ≡ (if b then m else c.0)
number_of true m c = refl
number_of false m c = refl

joined_name : (x y p : Place) → (joined_place x y p).class.0 ≡ name_joined x.class.0 y.class.0 p.class.0
unfolding name_joined
joined_name x y p = number_of (is_joined x y p) (min x.class.0 y.class.0) p.class

pub joined_low : (x y p : Place) → is_joined x y p ≡ true → (joined_place x y p).class.0 ≡ min x.class.0 y.class.0
joined_low x y p e = number_of (is_joined x y p) (min x.class.0 y.class.0) p.class ∙ ap (λ b. if b then min x.class.0 y.class.0 else p.class.0) e

pub joined_stays : (x y p : Place) → is_joined x y p ≡ false → (joined_place x y p).class.0 ≡ p.class.0
joined_stays x y p e = number_of (is_joined x y p) (min x.class.0 y.class.0) p.class ∙ ap (λ b. if b then min x.class.0 y.class.0 else p.class.0) e

pub flag_joined : (x y p : Place) → is_joined x y p ≡ true → (joined_place x y p).flagged ≡ (x.flagged || y.flagged)
flag_joined x y p e = ap (λ b. if b then x.flagged || y.flagged else p.flagged) e

pub flag_stays : (x y p : Place) → is_joined x y p ≡ false → (joined_place x y p).flagged ≡ p.flagged
flag_stays x y p e = ap (λ b. if b then x.flagged || y.flagged else p.flagged) e

-- the place is of one of the two classes
pub which : (x y p : Place) → is_joined x y p ≡ true → (p.class.0 ≡ x.class.0) ⊎ (p.class.0 ≡ y.class.0)
which x y p e = elim (or_cases (p.class.0 == x.class.0) (p.class.0 == y.class.0) e) [
  | inl a ↦ inl (eqb-true p.class.0 x.class.0 a)
  | inr b ↦ inr (eqb-true p.class.0 y.class.0 b)
]

pub is_either : (x y p : Place) → (p.class.0 ≡ x.class.0) ⊎ (p.class.0 ≡ y.class.0) → is_joined x y p ≡ true
is_either x y p (inl a) = or_left (p.class.0 == x.class.0) (p.class.0 == y.class.0) (eq-eqb p.class.0 x.class.0 a)
is_either x y p (inr b) = or_right (p.class.0 == x.class.0) (p.class.0 == y.class.0) (eq-eqb p.class.0 y.class.0 b)

turned : (x a b : Bool) → differ x (differ a b) ≡ (if a then not (if b then not x else x) else (if b then not x else x))
turned true true true = refl
turned true true false = refl
turned true false true = refl
turned true false false = refl
turned false true true = refl
turned false true false = refl
turned false false true = refl
turned false false false = refl

-- the places of an edge's ends, and what holds of the list with the edge
module _ (e : Edge) (es left : List Edge) (nodes : List Node) (t : List Place) (h : Follows es (e ∷ left) nodes t) where
  abbrev pub x : Place
  x = place_or_new t e.a.0

  abbrev pub y : Place
  y = place_or_new t e.b.0

  abbrev pub g : Place → Place
  g p = joined_place x y p

  pub x_at : IsAt t e.a.0 x
  x_at = or_new_at t e.a.0 (h.coming e (contains_here e left)).0

  pub y_at : IsAt t e.b.0 y
  y_at = or_new_at t e.b.0 (h.coming e (contains_here e left)).1

  -- a place whose node is chained with one of the ends
  pub of_either : (p : Place) → Contains t p → (class_of es p.node.0 ≡ class_of es e.a.0) ⊎ (class_of es p.node.0 ≡ class_of es e.b.0) → is_joined x y p ≡ true
  of_either p c (inl a) = is_either x y p (inl (h.coarse p x c x_at.there (a ∙ ap (class_of es) (sym x_at.node))))
  of_either p c (inr b) = is_either x y p (inr (h.coarse p y c y_at.there (b ∙ ap (class_of es) (sym y_at.node))))

  same_name : (p q : Place) → p.class.0 ≡ q.class.0 → (g p).class.0 ≡ (g q).class.0
  same_name p q e = joined_name x y p ∙ ap (name_joined x.class.0 y.class.0) e ∙ sym (joined_name x y q)

  g_odd : (p : Place) → Contains t p → (g p).odd ≡ odd_at (e ∷ es) p.node.0
  g_odd p c =
      let ends : (g p).odd ≡ toggle x.node.0 (toggle y.node.0 (λ u. p.odd)) p.node.0 = turned p.odd (p.node.0 == x.node.0) (p.node.0 == y.node.0) in
      ends
      ∙ ap (λ v. toggle v (toggle y.node.0 (λ u. p.odd)) p.node.0) x_at.node
      ∙ ap (λ v. toggle e.a.0 (toggle v (λ u. p.odd)) p.node.0) y_at.node
      ∙ ap (λ b. toggle e.a.0 (toggle e.b.0 (λ u. b)) p.node.0) (h.odd p c)
      ∙ sym (odd_more e es p.node.0)

  g_coarse : (p q : Place) → Contains t p → Contains t q → class_of (e ∷ es) p.node.0 ≡ class_of (e ∷ es) q.node.0 → (g p).class.0 ≡ (g q).class.0
  g_coarse p q cp cq same =
      elim (joined_same (class_of es e.a.0) (class_of es e.b.0) (class_of es p.node.0) (class_of es q.node.0) same) [
        | inl one ↦ same_name p q (h.coarse p q cp cq one)
        | inr both ↦ joined_low x y p (of_either p cp both.0) ∙ sym (joined_low x y q (of_either q cq both.1))
      ]

  g_named : (p : Place) → Contains t p → At (map g t) (g p).class.0
  g_named p c =
      elim (cases_Bool (is_joined x y p)) [
        | inl on ↦ subst (At (map g t)) (sym (joined_low x y p on)) lower
        | inr off ↦ subst (At (map g t)) (sym (joined_stays x y p off)) (at_map g t p.class.0 (λ q. refl) (h.named p c))
      ]
    where
      lower : At (map g t) (min x.class.0 y.class.0)
      lower = elim (cases_lt x.class.0 y.class.0) [
        | inl less ↦ let is : x.class.0 ≡ min x.class.0 y.class.0 = omega (arith, less) in subst (At (map g t)) is (at_map g t x.class.0 (λ q. refl) (h.named x x_at.there))
        | inr more ↦ let is : y.class.0 ≡ min x.class.0 y.class.0 = omega (arith, more) in subst (At (map g t)) is (at_map g t y.class.0 (λ q. refl) (h.named y y_at.there))
      ]

  g_alike : (p q : Place) → Contains t p → Contains t q → (g p).class.0 ≡ (g q).class.0 → (g p).flagged ≡ (g q).flagged
  g_alike p q cp cq same =
      elim (cases_Bool (is_joined x y p)) [
        | inl p_on ↦ elim (cases_Bool (is_joined x y q)) [
          | inl q_on ↦ flag_joined x y p p_on ∙ sym (flag_joined x y q q_on)
          | inr q_off ↦ absurd (both_ways (is_joined x y q) q_off (low_is q (sym (joined_stays x y q q_off) ∙ sym same ∙ joined_low x y p p_on)))
        ]
        | inr p_off ↦ elim (cases_Bool (is_joined x y q)) [
          | inl q_on ↦ absurd (both_ways (is_joined x y p) p_off (low_is p (sym (joined_stays x y p p_off) ∙ same ∙ joined_low x y q q_on)))
          | inr q_off ↦ flag_stays x y p p_off ∙ h.alike p q cp cq (sym (joined_stays x y p p_off) ∙ same ∙ joined_stays x y q q_off) ∙ sym (flag_stays x y q q_off)
        ]
      ]
    where
      low_is : (r : Place) → r.class.0 ≡ min x.class.0 y.class.0 → is_joined x y r ≡ true
      low_is r e = elim (cases_lt x.class.0 y.class.0) [
        | inl less ↦ is_either x y r (inl (omega (arith, e, less)))
        | inr more ↦ is_either x y r (inr (omega (arith, e, more)))
      ]

  -- both classes of the ends have no flag
  pub no_flags : (p : Place) → is_joined x y p ≡ true → (g p).flagged ≡ false → (x.flagged ≡ false) × (y.flagged ≡ false)
  no_flags p on none = or_parts x.flagged y.flagged (sym (flag_joined x y p on) ∙ none)

  pub was_unflagged : (p : Place) → Contains t p → (g p).flagged ≡ false → p.flagged ≡ false
  was_unflagged p c none =
      elim (cases_Bool (is_joined x y p)) [
        | inl on ↦ elim (which x y p on) [
          | inl a ↦ h.alike p x c x_at.there a ∙ (no_flags p on none).0
          | inr b ↦ h.alike p y c y_at.there b ∙ (no_flags p on none).1
        ]
        | inr off ↦ sym (flag_stays x y p off) ∙ none
      ]

  g_known : (p : Place) (v : ℕ) → Contains t p → (g p).flagged ≡ false → odd_at (e ∷ es) v ≡ true → class_of (e ∷ es) v ≡ class_of (e ∷ es) p.node.0 → At t v
  g_known p v c none odd same =
      elim (cases_eq v e.a.0) [
        | inl a ↦ subst (At t) (sym a) (h.coming e (contains_here e left)).0
        | inr not_a ↦ elim (cases_eq v e.b.0) [
          | inl b ↦ subst (At t) (sym b) (h.coming e (contains_here e left)).1
          | inr not_b ↦ elsewhere (sym (odd_more e es v ∙ toggle_other e.a.0 (toggle e.b.0 (odd_at es)) v not_a ∙ toggle_other e.b.0 (odd_at es) v not_b) ∙ odd)
        ]
      ]
    where
      elsewhere : odd_at es v ≡ true → At t v
      elsewhere was_odd =
          elim (joined_same (class_of es e.a.0) (class_of es e.b.0) (class_of es v) (class_of es p.node.0) same) [
            | inl one ↦ h.known p v c (was_unflagged p c none) was_odd one
            | inr both ↦ elim both.0 [
              | inl a ↦ h.known x v x_at.there (no_flags p (of_either p c both.1) none).0 was_odd (a ∙ ap (class_of es) (sym x_at.node))
              | inr b ↦ h.known y v y_at.there (no_flags p (of_either p c both.1) none).1 was_odd (b ∙ ap (class_of es) (sym y_at.node))
            ]
          ]

  moved : (v : ℕ) → At t v → At (map g t) v
  moved v at = at_map g t v (λ q. refl) at

  g_there : (v : ℕ) → is_open nodes v ≡ true → is_met (e ∷ es) v ≡ true → At t v
  g_there v free m =
      elim (or_cases (is_end v e) (is_met es v) m) [
        | inl end ↦ elim (or_cases (e.a.0 == v) (e.b.0 == v) end) [
          | inl a ↦ subst (At t) (eqb-true e.a.0 v a) (h.coming e (contains_here e left)).0
          | inr b ↦ subst (At t) (eqb-true e.b.0 v b) (h.coming e (contains_here e left)).1
        ]
        | inr before ↦ h.there v free before
      ]

or_moved : (a b c : Bool) → (a || (b || c)) ≡ true → ((b || a) || c) ≡ true
or_moved true true c h = refl
or_moved true false c h = refl
or_moved false true c h = refl
or_moved false false c h = h

-- one edge more
pub edge_follows : (e : Edge) (es left : List Edge) (nodes : List Node) (t : List Place) → Follows es (e ∷ left) nodes t → Follows (e ∷ es) left nodes (with_edge t e)
edge_follows e es left nodes t h = record {
  apart = pairs_map (λ (p q : Place). p.node.0 ≢ q.node.0) (Contains t) (λ (p q : Place). p.node.0 ≢ q.node.0) (g e es left nodes t h) t (λ p q _ _ differ. differ) (all_from_contains (Contains t) t (λ p c. c)) h.apart;
  within = mapped (λ (q : Place). is_open nodes q.node.0 ≡ true) (g e es left nodes t h) t h.within;
  odd = mapped (λ (q : Place). q.odd ≡ odd_at (e ∷ es) q.node.0) (g e es left nodes t h) t (g_odd e es left nodes t h);
  coarse = λ p' q' cp cq. mapped (λ (a : Place). class_of (e ∷ es) a.node.0 ≡ class_of (e ∷ es) q'.node.0 → a.class.0 ≡ q'.class.0) (g e es left nodes t h) t
      (λ p c. mapped (λ (b : Place). class_of (e ∷ es) p.node.0 ≡ class_of (e ∷ es) b.node.0 → (g e es left nodes t h p).class.0 ≡ b.class.0) (g e es left nodes t h) t (λ q d. g_coarse e es left nodes t h p q c d) q' cq) p' cp;
  named = mapped (λ (q : Place). At (with_edge t e) q.class.0) (g e es left nodes t h) t (g_named e es left nodes t h);
  alike = λ p' q' cp cq. mapped (λ (a : Place). a.class.0 ≡ q'.class.0 → a.flagged ≡ q'.flagged) (g e es left nodes t h) t
      (λ p c. mapped (λ (b : Place). (g e es left nodes t h p).class.0 ≡ b.class.0 → (g e es left nodes t h p).flagged ≡ b.flagged) (g e es left nodes t h) t (λ q d. g_alike e es left nodes t h p q c d) q' cq) p' cp;
  known = λ p' v c. mapped (λ (a : Place). a.flagged ≡ false → odd_at (e ∷ es) v ≡ true → class_of (e ∷ es) v ≡ class_of (e ∷ es) a.node.0 → At (with_edge t e) v) (g e es left nodes t h) t
      (λ p d none odd same. moved e es left nodes t h v (g_known e es left nodes t h p v d none odd same)) p' c;
  there = λ v free m. moved e es left nodes t h v (g_there e es left nodes t h v free m);
  met = mapped (λ (q : Place). (is_met (e ∷ es) q.node.0 || is_met left q.node.0) ≡ true) (g e es left nodes t h) t (λ p c. or_moved (is_met es p.node.0) (is_end p.node.0 e) (is_met left p.node.0) (h.met p c));
  coming = λ d c. (moved e es left nodes t h d.a.0 (h.coming d (contains_there e left d c)).0, moved e es left nodes t h d.b.0 (h.coming d (contains_there e left d c)).1);
}

-- the edges with those of a choice, the last one first
abbrev pub added : List Edge → List Edge → List Edge
added es [] = es
added es (e ∷ choice) = added (e ∷ es) choice

pub edges_follow : (choice es : List Edge) (nodes : List Node) (t : List Place) → Follows es choice nodes t → Follows (added es choice) [] nodes (fold with_edge t choice)
edges_follow [] es nodes t h = h
edges_follow (e ∷ choice) es nodes t h = edges_follow choice (e ∷ es) nodes (with_edge t e) (edge_follows e es choice nodes t h)
