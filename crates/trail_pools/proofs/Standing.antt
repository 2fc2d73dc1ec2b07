-- Pairs of fingers and half edges as the columns of a gate.
use Rattle.std.proofs.Common.{ℕ, ◌≡◌, Bool, true, false, List, [], ◌∷◌, ◌++◌, length, Some, None}
use Rattle.std.proofs.Common.{map, refl, sym, ap, subst, arith, ◌∙◌, inl, inr, All, Contains, IsPermutation}
use Rattle.std.specs.List.{filter, filter_map}
use Rattle.std.proofs.lemmas.Bool.{cases_eq}
use Rattle.std.proofs.lemmas.List.{length-map}
use Rattle.std.proofs.lemmas.List.Elements.{All-cons, All-head, All-nil, All-tail}
use Rattle.std.proofs.lemmas.List.Sorted.{All-permutation, Contains-permutation, IsPermutation-cons, IsPermutation-map}
use Rattle.std.proofs.lemmas.List.Sorted.{IsPermutation-middle, IsPermutation-refl, IsPermutation-sym}
use Rattle.std.proofs.lemmas.List.Sorted.{IsPermutation-trans, length_permutation}
use Rattle.cell_num.specs.declared.net.NetNo.{NetNo}
use Rattle.cell_num.specs.declared.finger.Row.{Row}
use Rattle.cell_num.specs.declared.finger.Row.TheVariants.{P, N}
use Rattle.cell_num.specs.declared.finger.Finger.{Finger}
use Rattle.cell_num.specs.declared.finger.Fingers.{Fingers}
use Rattle.cell_num.proofs.Lists.{contains_cons, contains_here, contains_none, contains_one}
use Rattle.row_model.specs.declared.column.Placed.{Placed}
use Rattle.row_model.specs.declared.column.Column.{Column}
use Rattle.row_model.specs.Arrangement.{IsColumn, IsPlaced, fingers_in}
use Rattle.row_model.specs.Gaps.{left_net, right_net}
use Rattle.trail_state.specs.declared.edge.Edge.{Edge}
use Rattle.trail_state.specs.declared.edge.FingerEnds.{FingerEnds}
use Rattle.trail_state.specs.Choices.{AreEdgesOf, IsEdgeOf}
use Rattle.trail_state.specs.Edges.{edge_of, pair_edges}
use Rattle.trail_state.specs.Pairings.{nets_at}
use Rattle.trail_state.proofs.Listed.{nets_uncons}
use Rattle.trail_state.proofs.Members.{filter_on}
use Rattle.trail_halves.specs.Open.{half_in, is_filled, is_none}
use Rattle.trail_halves.proofs.Parted.{other_row}
use Rattle.trail_pools.specs.Choices.{column_edges}
use Rattle.trail_pools.proofs.Beside.{IsPair, Pair, e_of, x_of, y_of}
use Rattle.trail_pools.proofs.Halved.{finger_at, kept_none, kept_some}

-- ---- a finger with these nets, and the others

record Taken (y : FingerEnds) (rs : List Finger) : Type 0 where
  pub it : Finger
  pub rest : List Finger
  pub nets : nets_at it ≡ y
  pub all : IsPermutation rs (it ∷ rest)

taken : (y : FingerEnds) (rs : List Finger) → Contains (map nets_at rs) y → Taken y rs
taken y [] c = absurd (contains_none y c)
taken y (r ∷ rs) c = elim (contains_cons (nets_at r) (map nets_at rs) y c) [
  | inl same ↦ record { it = r; rest = rs; nets = same; all = IsPermutation-refl (r ∷ rs) }
  | inr there ↦
      let t : Taken y rs = taken y rs there in
      record {
        it = t.it;
        rest = r ∷ t.rest;
        nets = t.nets;
        all =
            IsPermutation-trans (r ∷ rs) (r ∷ t.it ∷ t.rest) (t.it ∷ r ∷ t.rest)
            (IsPermutation-cons r rs (t.it ∷ t.rest) t.all) (IsPermutation-middle (r ∷ []) t.it t.rest);
      }
]

left_taken : (y : FingerEnds) (rs : List Finger) (t : Taken y rs) (others : List FingerEnds)
    → IsPermutation (map nets_at rs) (y ∷ others) → IsPermutation (map nets_at t.rest) others
left_taken y rs t others is =
    let first : IsPermutation (map nets_at rs) (y ∷ map nets_at t.rest) =
    subst (λ v. IsPermutation (map nets_at rs) (v ∷ map nets_at t.rest)) t.nets
    (IsPermutation-map nets_at rs (t.it ∷ t.rest) t.all) in
    nets_uncons y (map nets_at t.rest) others
    (IsPermutation-trans (y ∷ map nets_at t.rest) (map nets_at rs) (y ∷ others)
    (IsPermutation-sym (map nets_at rs) (y ∷ map nets_at t.rest) first) is)

-- ---- a column of two fingers

abbrev standing : Bool → Finger → Placed
standing flipped x = record { finger = x; flipped = flipped }

-- the second finger so turned that the column has the edge
record Turned (q r : Finger) (e : Edge) : Type 0 where
  pub flipped : Bool
  pub placed : IsPlaced (standing flipped r)
  pub edge : e ≡ edge_of q.lo.0 (left_net (standing flipped r)).0 q.hi.0 (right_net (standing flipped r)).0

turned : (q r : Finger) (e : Edge) → Contains (pair_edges (nets_at q) (nets_at r)) e → Turned q r e
turned q r e c = elim (contains_cons (edge_of q.lo.0 r.lo.0 q.hi.0 r.hi.0) (edge_of q.lo.0 r.hi.0 q.hi.0 r.lo.0 ∷ []) e c) [
  | inl same ↦ record { flipped = false; placed = λ one. refl; edge = sym same }
  | inr rest ↦ unlike (contains_one (edge_of q.lo.0 r.hi.0 q.hi.0 r.lo.0) e rest)
]
  where
    unlike : edge_of q.lo.0 r.hi.0 q.hi.0 r.lo.0 ≡ e → Turned q r e
    unlike same = elim (cases_eq r.lo.0 r.hi.0) [
      | inl one ↦ record {
        flipped = false;
        placed = λ loop. refl;
        edge =
            sym same ∙ ap (λ v. edge_of q.lo.0 v q.hi.0 r.lo.0) (sym one)
            ∙ ap (λ v. edge_of q.lo.0 r.lo.0 q.hi.0 v) one;
      }
      | inr two ↦ record {
        flipped = true;
        placed = λ loop. absurd (two (ap (λ (n : NetNo). n.0) loop));
        edge = sym same;
      }
    ]

-- a column of these fingers with the edge
record Full (f : Fingers) (r : Row) (x y : Finger) (e : Edge) : Type 0 where
  pub column : Column
  pub is : IsColumn column
  pub mine : finger_at r column ≡ Some x
  pub beside : finger_at (other_row r) column ≡ Some y
  pub half : half_in r column ≡ None
  pub drawn : IsEdgeOf f column.p column.n e

full : (f : Fingers) (r : Row) (x y : Finger) (e : Edge) → x.gate ≡ y.gate
    → Contains (column_edges r (nets_at x) (nets_at y)) e → Full f r x y e
full f P x y e one c =
    let u : Turned x y e = turned x y e c in
    record {
      column = record { p = Some (standing false x); n = Some (standing u.flipped y) };
      is = (one, λ loop. refl, u.placed);
      mine = refl;
      beside = refl;
      half = refl;
      drawn = u.edge;
    }
full f N x y e one c =
    let u : Turned y x e = turned y x e c in
    record {
      column = record { p = Some (standing false y); n = Some (standing u.flipped x) };
      is = (sym one, λ loop. refl, u.placed);
      mine = refl;
      beside = refl;
      half = refl;
      drawn = u.edge;
    }

-- ---- columns of one finger

abbrev lone : Row → Finger → Column
lone P x = record { p = Some (standing false x); n = None }
lone N x = record { p = None; n = Some (standing false x) }

lone_is : (r : Row) (xs : List Finger) → All IsColumn (map (lone r) xs)
lone_is r [] = All-nil IsColumn
lone_is P (x ∷ xs) = All-cons IsColumn (lone P x) (map (lone P) xs) (λ loop. refl) (lone_is P xs)
lone_is N (x ∷ xs) = All-cons IsColumn (lone N x) (map (lone N) xs) (λ loop. refl) (lone_is N xs)

lone_mine : (r : Row) (xs : List Finger) → fingers_in r (map (lone r) xs) ≡ xs
lone_mine r [] = refl
lone_mine P (x ∷ xs) = ap (λ l. x ∷ l) (lone_mine P xs)
lone_mine N (x ∷ xs) = ap (λ l. x ∷ l) (lone_mine N xs)

lone_beside : (r : Row) (xs : List Finger) → fingers_in (other_row r) (map (lone r) xs) ≡ []
lone_beside r [] = refl
lone_beside P (x ∷ xs) = lone_beside P xs
lone_beside N (x ∷ xs) = lone_beside N xs

lone_halves : (r : Row) (xs : List Finger) → filter_map (half_in r) (map (lone r) xs) ≡ map nets_at xs
lone_halves r [] = refl
lone_halves P (x ∷ xs) = ap (λ l. nets_at x ∷ l) (lone_halves P xs)
lone_halves N (x ∷ xs) = ap (λ l. nets_at x ∷ l) (lone_halves N xs)

lone_filled : (r : Row) (xs : List Finger) → filter (is_filled r) (map (lone r) xs) ≡ []
lone_filled r [] = refl
lone_filled P (x ∷ xs) = lone_filled P xs
lone_filled N (x ∷ xs) = lone_filled N xs

-- ---- all columns

abbrev pub IsOn : ℕ → Finger → Type 0
IsOn g x = x.gate.0 ≡ g

one_gate : (g : ℕ) (x y : Finger) → IsOn g x → IsOn g y → x.gate ≡ y.gate
one_gate g x y of_x of_y = let same : x.gate.0 ≡ y.gate.0 = of_x ∙ sym of_y in λ i. record { 0 = same i }

-- columns with these fingers of the row and of the other one, with the edges of the pairs and the half edges
pub record Stands (f : Fingers) (r : Row) (fr fo : List Finger) (pairs : List Pair) (hs : List FingerEnds) : Type 0 where
  pub cs : List Column
  pub columns : All IsColumn cs
  pub xs : IsPermutation fr (fingers_in r cs)
  pub ys : fo ≡ fingers_in (other_row r) cs
  pub filled : AreEdgesOf f (filter (is_filled r) cs) (map e_of pairs)
  pub halves : IsPermutation (filter_map (half_in r) cs) hs
  pub many : length cs ≡ length fr

module _ (f : Fingers) (r : Row) (g : ℕ) (hs : List FingerEnds) where
  lone_stand : (fr : List Finger) → IsPermutation (map nets_at fr) hs → Stands f r fr [] [] hs
  lone_stand fr is = record {
    cs = map (lone r) fr;
    columns = lone_is r fr;
    xs = subst (IsPermutation fr) (sym (lone_mine r fr)) (IsPermutation-refl fr);
    ys = sym (lone_beside r fr);
    filled = subst (λ l. AreEdgesOf f l []) (sym (lone_filled r fr)) tt;
    halves = subst (λ l. IsPermutation l hs) (sym (lone_halves r fr)) is;
    many = length-map fr (lone r);
  }

  more_stand : (fr rest fo : List Finger) (x y : Finger) (p : Pair) (ps : List Pair) → IsPermutation fr (x ∷ rest)
      → Full f r x y p.e → Stands f r rest fo ps hs → Stands f r fr (y ∷ fo) (p ∷ ps) hs
  more_stand fr rest fo x y p ps all u m =
      let c : Column = u.column in
      let mine : fingers_in r (c ∷ m.cs) ≡ x ∷ fingers_in r m.cs = kept_some (finger_at r) c x m.cs u.mine in
      let beside : fingers_in (other_row r) (c ∷ m.cs) ≡ y ∷ fingers_in (other_row r) m.cs =
      kept_some (finger_at (other_row r)) c y m.cs u.beside in
      let kept : filter (is_filled r) (c ∷ m.cs) ≡ c ∷ filter (is_filled r) m.cs =
      filter_on (is_filled r) c m.cs (ap is_none u.half) in
      let same : filter_map (half_in r) (c ∷ m.cs) ≡ filter_map (half_in r) m.cs =
      kept_none (half_in r) c m.cs u.half in
      record {
        cs = c ∷ m.cs;
        columns = All-cons IsColumn c m.cs u.is m.columns;
        xs =
            subst (IsPermutation fr) (sym mine)
            (IsPermutation-trans fr (x ∷ rest) (x ∷ fingers_in r m.cs) all
            (IsPermutation-cons x rest (fingers_in r m.cs) m.xs));
        ys = ap (λ l. y ∷ l) m.ys ∙ sym beside;
        filled = subst (λ l. AreEdgesOf f l (p.e ∷ map e_of ps)) (sym kept) (u.drawn, m.filled);
        halves = subst (λ l. IsPermutation l hs) (sym same) m.halves;
        many = omega (arith, m.many, length_permutation fr (x ∷ rest) all);
      }

  pub stand : (pairs : List Pair) (fo fr : List Finger) → map nets_at fo ≡ map y_of pairs
      → IsPermutation (map nets_at fr) (map x_of pairs ++ hs) → All (IsPair r) pairs → All (IsOn g) fr
      → All (IsOn g) fo → Stands f r fr fo pairs hs
  stand [] [] fr ys xs are on_r on_o = lone_stand fr xs
  stand [] (y ∷ fo) fr ys xs are on_r on_o = absurd (omega (arith, ap length ys))
  stand (p ∷ ps) [] fr ys xs are on_r on_o = absurd (omega (arith, ap length ys))
  stand (p ∷ ps) (y ∷ fo) fr ys xs are on_r on_o =
      let is_y : nets_at y ≡ p.y = cc in
      let behind : map nets_at fo ≡ map y_of ps = cc in
      let others : List FingerEnds = map x_of ps ++ hs in
      let t : Taken p.x fr =
      taken p.x fr (Contains-permutation (p.x ∷ others) (map nets_at fr) p.x
      (IsPermutation-sym (map nets_at fr) (p.x ∷ others) xs) (contains_here p.x others)) in
      let on_t : All (IsOn g) (t.it ∷ t.rest) = All-permutation (IsOn g) fr (t.it ∷ t.rest) t.all on_r in
      let one : t.it.gate ≡ y.gate =
      one_gate g t.it y (All-head (IsOn g) t.it t.rest on_t) (All-head (IsOn g) y fo on_o) in
      let edge : Contains (column_edges r (nets_at t.it) (nets_at y)) p.e =
      subst (λ v. Contains (column_edges r v (nets_at y)) p.e) (sym t.nets)
      (subst (λ v. Contains (column_edges r p.x v) p.e) (sym is_y) (All-head (IsPair r) p ps are)) in
      more_stand fr t.rest fo t.it y p ps t.all (full f r t.it y p.e one edge)
      (stand ps fo t.rest behind (left_taken p.x fr t others xs) (All-tail (IsPair r) p ps are)
      (All-tail (IsOn g) t.it t.rest on_t) (All-tail (IsOn g) y fo on_o))
