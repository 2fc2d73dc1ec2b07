-- Columns along a walk through their edges: a gap is where the walk breaks off.
use Rattle.std.proofs.Common.{ℕ, ◌≡◌, ◌≤◌, ◌==◌, Bool, true, false, cond, if◌then◌else◌, List}
use Rattle.std.proofs.Common.{[], ◌∷◌, Option, Some, None, option_map, length, map, refl, sym, ap, arith, ◌∙◌}
use Rattle.std.proofs.Common.{inl, inr, All}
use Rattle.std.specs.List.{cons_option, zip}
use Rattle.std.proofs.lemmas.Bool.{cases_Bool, eq-eqb, eqb-true, not_from_true, or_from}
use Rattle.std.proofs.lemmas.List.Elements.{All-cons, All-head, All-tail}
use Rattle.std.proofs.lemmas.List.Sums.{sum_by-cons}
use Rattle.cell_num.specs.declared.finger.Row.{Row}
use Rattle.row_model.specs.declared.column.Placed.{Placed}
use Rattle.row_model.specs.declared.column.Column.{Column}
use Rattle.row_model.specs.Arrangement.{IsColumn, fingers_in, place}
use Rattle.row_model.specs.Gaps.{facing_differs, gaps_of, is_gap, left_net, right_net}
use Rattle.trail_state.specs.declared.edge.Edge.{Edge}
use Rattle.trail_state.specs.Edges.{edge_between, pair_node}
use Rattle.trail_state.proofs.Walks.{breaks_from, breaks_of, edges_of}
use Rattle.trail_check.proofs.Steps.{Step}
use Rattle.trail_check.proofs.Turned.{Drawn, Goes, HasEnds, Laid, laid}

-- no net faces another where two columns go on at one node
facing : (a b : Option Placed) (u v l r : ℕ) → HasEnds a u v → HasEnds b l r → v ≡ l → facing_differs a b ≡ false
facing None b u v l r h k e = refl
facing (Some x) None u v l r h k e = refl
facing (Some x) (Some y) u v l r h k e =
    not_from_true ((right_net x).0 == (left_net y).0) (eq-eqb (right_net x).0 (left_net y).0 (h.1 ∙ e ∙ sym k.0))

one_gap : (c d : Column) (u v l r : ℕ) → Goes c u v → Goes d l r
    → (if is_gap (c, d) then 1 else 0) ≤ (if v == l then 0 else 1)
one_gap c d u v l r g h =
    elim (cases_Bool (v == l)) [
      | inl on ↦
          let node : pair_node g.p_right g.n_right ≡ pair_node h.p_left h.n_left =
          sym g.right ∙ eqb-true v l on ∙ h.left in
          let p : g.p_right ≡ h.p_left = omega (arith, node, g.right_below, h.left_below) in
          let n : g.n_right ≡ h.n_left = omega (arith, node, p) in
          let none : is_gap (c, d) ≡ false =
          or_from (facing_differs c.p d.p) (facing_differs c.n d.n)
          (facing c.p d.p g.p_left g.p_right h.p_left h.p_right g.p h.p p)
          (facing c.n d.n g.n_left g.n_right h.n_left h.n_right g.n h.n n) in
          let zero_is : ◌≡◌ {A = ℕ} (if is_gap (c, d) then 1 else 0) 0 = rw none refl in
          omega (arith, zero_is)
      | inr off ↦
          let one : ◌≡◌ {A = ℕ} (if v == l then 0 else 1) 1 = rw off refl in
          omega (arith, one, at_most (is_gap (c, d)))
    ]
  where
    at_most : (b : Bool) → (if b then 1 else 0) ≤ 1
    at_most true = omega arith
    at_most false = omega arith

-- each column along its step
abbrev AreAlong : List Column → List Step → Type 0
AreAlong [] [] = Unit {0}
AreAlong (c ∷ cs) ((l, r) ∷ w) = Goes c l r × AreAlong cs w
AreAlong _ _ = ⊥

gaps_after : (c : Column) (l r : ℕ) (cs : List Column) (w : List Step) → Goes c l r → AreAlong cs w
    → gaps_of (c ∷ cs) ≤ breaks_from r w
gaps_after c l r [] [] g h = omega arith
gaps_after c l r [] (s ∷ w) g h = absurd h
gaps_after c l r (d ∷ cs) [] g h = absurd h
gaps_after c l r (d ∷ cs) ((a, b) ∷ w) g h =
    omega (
      arith,
      one_gap c d l r a b g h.0,
      gaps_after d a b cs w h.0 h.1,
      sum_by-cons (λ x. cond (is_gap x) 1 0)
          (c, d) (zip (d ∷ cs) cs),
    )

few_gaps : (cs : List Column) (w : List Step) → AreAlong cs w → gaps_of cs ≤ breaks_of w
few_gaps [] [] h = omega arith
few_gaps [] (s ∷ w) h = absurd h
few_gaps (c ∷ cs) [] h = absurd h
few_gaps (c ∷ cs) ((l, r) ∷ w) h = gaps_after c l r cs w h.0 h.1

-- the columns with their edges along the walk
pub record Rowed (zs : List (Column × Edge)) (w : List Step) : Type 0 where
  pub row : List Column
  pub columns : All IsColumn (map (λ (z : Column × Edge). z.0) zs) → All IsColumn row
  pub fingers : (r : Row) → fingers_in r row ≡ fingers_in r (map (λ (z : Column × Edge). z.0) zs)
  pub as_many : length row ≡ length zs
  pub along : AreAlong row w

abbrev pub IsDrawing : Column × Edge → Type 0
IsDrawing z = Drawn z.0 z.1

cons_ne : {X : Type 0} (x : X) (xs : List X) → x ∷ xs ≡ [] → ⊥
cons_ne x xs e = cc

nil_ne : {X : Type 0} (x : X) (xs : List X) → [] ≡ x ∷ xs → ⊥
nil_ne x xs e = cc

heads : {X : Type 0} (x y : X) (xs ys : List X) → x ∷ xs ≡ y ∷ ys → (x ≡ y) × (xs ≡ ys)
heads x y xs ys e = (cc, cc)

rowed : (zs : List (Column × Edge)) (w : List Step) → All IsDrawing zs
    → map (λ (z : Column × Edge). z.1) zs ≡ edges_of w → Rowed zs w
rowed [] [] h e = record { row = []; columns = λ k. k; fingers = λ r. refl; as_many = refl; along = tt }
rowed [] ((l, r) ∷ w) h e = absurd (nil_ne (edge_between l r) (edges_of w) e)
rowed (z ∷ zs) [] h e = absurd (cons_ne z.1 (map (λ (y : Column × Edge). y.1) zs) e)
rowed (z ∷ zs) ((l, r) ∷ w) h e =
    let parts : (z.1 ≡ edge_between l r) × (map (λ (y : Column × Edge). y.1) zs ≡ edges_of w) =
    heads z.1 (edge_between l r) (map (λ (y : Column × Edge). y.1) zs) (edges_of w) e in
    let c : Laid z.0 l r = laid z.0 z.1 l r (All-head IsDrawing z zs h) parts.0 in
    let rest : Rowed zs w = rowed zs w (All-tail IsDrawing z zs h) parts.1 in
    record {
      row = c.it ∷ rest.row;
      columns =
          λ k. All-cons IsColumn c.it rest.row (c.one (All-head IsColumn z.0 (map (λ (y : Column × Edge). y.0) zs) k))
          (rest.columns (All-tail IsColumn z.0 (map (λ (y : Column × Edge). y.0) zs) k));
      fingers =
          λ row. ap (λ o. cons_option o (fingers_in row rest.row)) (c.fingers row)
          ∙ ap (cons_option (option_map (λ (x : Placed). x.finger) (place row z.0))) (rest.fingers row);
      as_many = omega (arith, rest.as_many);
      along = (c.goes, rest.along);
    }

-- and with no more gaps than the walk has breaks
pub record RowedFew (zs : List (Column × Edge)) (w : List Step) : Type 0 where
  pub row : List Column
  pub columns : All IsColumn (map (λ (z : Column × Edge). z.0) zs) → All IsColumn row
  pub fingers : (r : Row) → fingers_in r row ≡ fingers_in r (map (λ (z : Column × Edge). z.0) zs)
  pub as_many : length row ≡ length zs
  pub few : gaps_of row ≤ breaks_of w

pub rowed_few : (zs : List (Column × Edge)) (w : List Step) → All IsDrawing zs
    → map (λ (z : Column × Edge). z.1) zs ≡ edges_of w → RowedFew zs w
rowed_few zs w h e =
    let r : Rowed zs w = rowed zs w h e in
    record {
      row = r.row;
      columns = r.columns;
      fingers = r.fingers;
      as_many = r.as_many;
      few = few_gaps r.row w r.along;
    }
