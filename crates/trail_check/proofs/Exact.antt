-- The names and flags of a state: names are alike exactly where the edges so far chain, and each flag stands for an odd
-- node that no gate can meet any more.
use Rattle.std.proofs.Common.{ℕ, ◌≡◌, ◌<◌, ◌==◌, ◌&&◌, true, false, min, List, [], ◌∷◌, fold, refl, sym, ap}
use Rattle.std.proofs.Common.{arith, ◌∙◌, inl, inr, AllPairs, ◌≢◌, Contains}
use Rattle.std.proofs.lemmas.Bool.{and_parts, both_ways, cases_Bool, cases_lt, eqb-true, false_from_ne_true, not-true}
use Rattle.std.proofs.lemmas.Bool.{or_cases}
use Rattle.cell_num.proofs.Lists.{contains_none}
use Rattle.cell_num.proofs.Pairs.{Some', test_finds}
use Rattle.row_trails.specs.Trails.{toggle, toggle_other}
use Rattle.row_state.specs.Chained.{joined_a, joined_b}
use Rattle.row_state.specs.Classes.{joined}
use Rattle.trail_state.specs.declared.edge.Node.{Node}
use Rattle.trail_state.specs.declared.edge.Edge.{Edge}
use Rattle.trail_state.specs.declared.state.Place.{Place}
use Rattle.trail_state.specs.Places.{is_joined, is_met, met_places, with_edge}
use Rattle.trail_state.specs.Settling.{has_odd, is_open, state_settled}
use Rattle.trail_state.proofs.Begun as begins
use Rattle.trail_state.proofs.Follows.{Follows, added, edge_follows, flag_joined, flag_stays, joined_low, joined_stays}
use Rattle.trail_state.proofs.Follows.{which}
use Rattle.trail_state.proofs.Follows as follows
use Rattle.trail_state.proofs.Links.{class_of, odd_at, odd_more}
use Rattle.trail_state.proofs.Members.{Found, IsAt, mapped}
use Rattle.trail_state.proofs.Settles.{AreFewer, of_class}
use Rattle.trail_state.proofs.Settles as settling

-- an odd node below n in the class of v that no gate can meet
pub record HasShut (n : ℕ) (es : List Edge) (nodes : List Node) (v : ℕ) : Type 0 where
  pub it : ℕ
  pub below : it < n
  pub odd : odd_at es it ≡ true
  pub shut : is_open nodes it ≡ false
  pub same : class_of es it ≡ class_of es v

pub record IsExact (n : ℕ) (es : List Edge) (nodes : List Node) (t : List Place) : Type 0 where
  -- the name of a class is one of its nodes
  pub named : (p : Place) → Contains t p → class_of es p.class.0 ≡ class_of es p.node.0
  pub marked : (p : Place) → Contains t p → p.flagged ≡ true → HasShut n es nodes p.node.0

pub start_exact : (n : ℕ) (nodes : List Node) → IsExact n [] nodes []
start_exact n nodes = record { named = λ p c. absurd (contains_none p c); marked = λ p c _. absurd (contains_none p c) }

-- a choice begins with the places of the state and new ones
module _ (n : ℕ) (c es : List Edge) (nodes : List Node) (s : List Place) (h : Follows es [] nodes s)
    (differ : AllPairs (λ (a b : Node). a.0 ≢ b.0) nodes) (open_ends : (v : ℕ) → is_met c v ≡ true →
    is_open nodes v ≡ true) (exact : IsExact n es nodes s) where
  pub begun_exact : IsExact n es nodes (met_places nodes s c)
  begun_exact = record {
    named = λ p k. elim (begins.of c es nodes s h differ open_ends p k) [
      | inl old ↦ exact.named p old.0
      | inr new ↦ ap (class_of es) (ap (λ (q : Place). q.class.0) new.2)
    ];
    marked = λ p k flag. elim (begins.of c es nodes s h differ open_ends p k) [
      | inl old ↦ exact.marked p old.0 flag
      | inr new ↦ absurd (both_ways p.flagged (ap (λ (q : Place). q.flagged) new.2) flag)
    ];
  }

-- an edge between two places
module _ (n : ℕ) (e : Edge) (es left : List Edge) (nodes : List Node) (t : List Place)
    (h : Follows es (e ∷ left) nodes t) (exact : IsExact n es nodes t) where
  abbrev a : ℕ
  a = class_of es e.a.0

  abbrev b : ℕ
  b = class_of es e.b.0

  abbrev x : Place
  x = follows.x e es left nodes t h

  abbrev y : Place
  y = follows.y e es left nodes t h

  abbrev g : Place → Place
  g p = follows.g e es left nodes t h p

  x_at : IsAt t e.a.0 x
  x_at = follows.x_at e es left nodes t h

  y_at : IsAt t e.b.0 y
  y_at = follows.y_at e es left nodes t h

  x_name : class_of es x.class.0 ≡ a
  x_name = exact.named x x_at.there ∙ ap (class_of es) x_at.node

  y_name : class_of es y.class.0 ≡ b
  y_name = exact.named y y_at.there ∙ ap (class_of es) y_at.node

  -- a place of one of the two classes is now of their common class
  low : (p : Place) → Contains t p → is_joined x y p ≡ true → joined a b (class_of es p.node.0) ≡ min a b
  low p c on = elim (which x y p on) [
    | inl of_x ↦ ap (joined a b) (sym (exact.named p c) ∙ ap (class_of es) of_x ∙ x_name) ∙ joined_a a b
    | inr of_y ↦ ap (joined a b) (sym (exact.named p c) ∙ ap (class_of es) of_y ∙ y_name) ∙ joined_b a b
  ]

  low_name : joined a b (class_of es (min x.class.0 y.class.0)) ≡ min a b
  low_name = elim (cases_lt x.class.0 y.class.0) [
    | inl less ↦
        let is : min x.class.0 y.class.0 ≡ x.class.0 = omega (arith, less) in
        ap (joined a b) (ap (class_of es) is ∙ x_name) ∙ joined_a a b
    | inr more ↦
        let is : min x.class.0 y.class.0 ≡ y.class.0 = omega (arith, more) in
        ap (joined a b) (ap (class_of es) is ∙ y_name) ∙ joined_b a b
  ]

  still_named : (p : Place) → Contains t p → class_of (e ∷ es) (g p).class.0 ≡ class_of (e ∷ es) p.node.0
  still_named p c = elim (cases_Bool (is_joined x y p)) [
    | inl on ↦ ap (class_of (e ∷ es)) (joined_low x y p on) ∙ low_name ∙ sym (low p c on)
    | inr off ↦ ap (class_of (e ∷ es)) (joined_stays x y p off) ∙ ap (joined a b) (exact.named p c)
  ]

  -- the edge does not turn a node that no gate can meet
  still : (u v : ℕ) → joined a b (class_of es u) ≡ joined a b (class_of es v) → HasShut n es nodes u →
      HasShut n (e ∷ es) nodes v
  still u v same m = record {
    it = m.it;
    below = m.below;
    odd = odd_more e es m.it ∙ toggle_other e.a.0 (toggle e.b.0 (odd_at es)) m.it (other e.a.0 x x_at) ∙ toggle_other
        e.b.0 (odd_at es) m.it (other e.b.0 y y_at) ∙ m.odd;
    shut = m.shut;
    same = ap (joined a b) m.same ∙ same;
  }
    where
      other : (w : ℕ) (p : Place) → IsAt t w p → m.it ≡ w → ⊥
      other w p at is = both_ways (is_open nodes m.it) m.shut (ap (is_open nodes) (is ∙ sym at.node) ∙ h.within p
          at.there)

  still_marked : (p : Place) → Contains t p → (g p).flagged ≡ true → HasShut n (e ∷ es) nodes p.node.0
  still_marked p c flag = elim (cases_Bool (is_joined x y p)) [
    | inl on ↦ elim (or_cases x.flagged y.flagged (sym (flag_joined x y p on) ∙ flag)) [
      | inl of_x ↦ still x.node.0 p.node.0 (ap (joined a b) (ap (class_of es) x_at.node) ∙ joined_a a b ∙ sym
          (low p c on)) (exact.marked x x_at.there of_x)
      | inr of_y ↦ still y.node.0 p.node.0 (ap (joined a b) (ap (class_of es) y_at.node) ∙ joined_b a b ∙ sym
          (low p c on)) (exact.marked y y_at.there of_y)
    ]
    | inr off ↦ still p.node.0 p.node.0 refl (exact.marked p c (sym (flag_stays x y p off) ∙ flag))
  ]

  pub edge_exact : IsExact n (e ∷ es) nodes (with_edge t e)
  edge_exact = record {
    named = mapped (λ (q : Place). class_of (e ∷ es) q.class.0 ≡ class_of (e ∷ es) q.node.0) g t still_named;
    marked = mapped (λ (q : Place). q.flagged ≡ true → HasShut n (e ∷ es) nodes q.node.0) g t still_marked;
  }

pub edges_exact : (n : ℕ) (choice es : List Edge) (nodes : List Node) (t : List Place) → Follows es choice nodes t →
    IsExact n es nodes t → IsExact n (added es choice) nodes (fold with_edge t choice)
edges_exact n [] es nodes t h exact = exact
edges_exact n (e ∷ choice) es nodes t h exact =
    edges_exact n choice (e ∷ es) nodes (with_edge t e) (edge_follows e es choice nodes t h)
    (edge_exact n e es choice nodes t h exact)

-- the places that stay once a gate is done
module _ (n : ℕ) (es : List Edge) (nodes next : List Node) (t : List Place) (h : Follows es [] nodes t)
    (fewer : AreFewer next nodes) (below : (v : ℕ) → is_open nodes v ≡ true → v < n) (exact : IsExact n es nodes t)
  where
    abbrev kept : List Place
    kept = settling.kept es nodes next t h fewer

    abbrev closing : List Place
    closing = settling.closing es nodes next t h fewer

    abbrev moved : Place → Place
    moved p = settling.g es nodes next t h fewer p

    of_kept : (p : Place) → Contains kept p → Contains t p
    of_kept p c = (settling.of_kept es nodes next t h fewer p c).there

    name_stays : (p : Place) → Contains kept p → class_of es (moved p).class.0 ≡ class_of es p.node.0
    name_stays p c =
        let q : Found (of_class p.class.0) kept = settling.namer es nodes next t h fewer p c in
        ap (class_of es) (settling.named_by es nodes next t h fewer p c) ∙ sym (exact.named q.it (of_kept q.it q.there))
        ∙ ap (class_of es) (settling.namer_class es nodes next t h fewer p c) ∙ exact.named p (of_kept p c)

    marked_still : (p : Place) → HasShut n es nodes p.node.0 → HasShut n es next p.node.0
    marked_still p m = record {
      it = m.it;
      below = m.below;
      odd = m.odd;
      shut = false_from_ne_true (is_open next m.it) (λ free. both_ways (is_open nodes m.it) m.shut (fewer m.it free));
      same = m.same;
    }

    marked_now : (p : Place) → Contains kept p → has_odd closing p.class.0 ≡ true → HasShut n es next p.node.0
    marked_now p c some =
        let s : Some' (λ (q : Place). ((q.class.0 == p.class.0) && q.odd) ≡ true) closing =
        test_finds (λ (q : Place). (q.class.0 == p.class.0) && q.odd) closing some in
        let parts : ((s.it.class.0 == p.class.0) ≡ true) × (s.it.odd ≡ true) = and_parts (s.it.class.0 == p.class.0)
        s.it.odd s.holds in
        let listed : Contains t s.it = (settling.of_closing es nodes next t h fewer s.it s.there).there in
        record {
          it = s.it.node.0;
          below = below s.it.node.0 (h.within s.it listed);
          odd = sym (h.odd s.it listed) ∙ parts.1;
          shut = not-true (is_open next s.it.node.0) (settling.of_closing es nodes next t h fewer s.it s.there).passes;
          same = sym (exact.named s.it listed) ∙ ap (class_of es) (eqb-true s.it.class.0 p.class.0 parts.0)
              ∙ exact.named p (of_kept p c);
        }

    pub settled_exact : IsExact n es next (state_settled next t)
    settled_exact = record {
      named = mapped (λ (q : Place). class_of es q.class.0 ≡ class_of es q.node.0) moved kept name_stays;
      marked = mapped (λ (q : Place). q.flagged ≡ true → HasShut n es next q.node.0) moved kept
          (λ p c flag. elim (or_cases p.flagged (has_odd closing p.class.0) flag) [
            | inl old ↦ marked_still p (exact.marked p (of_kept p c) old)
            | inr new ↦ marked_now p c new
          ]);
    }
