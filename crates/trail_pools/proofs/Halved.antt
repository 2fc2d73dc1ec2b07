-- The columns of a gate as pairs of fingers and half edges, where every column has a finger of the row.
use Rattle.std.proofs.Common.{ℕ, ◌≡◌, ◌≢◌, if◌then◌else◌, Bool, true, false, List, [], ◌∷◌, ◌++◌, Option, Some, None}
use Rattle.std.proofs.Common.{option_map, map, refl, sym, ap, subst, ◌∙◌, All, Contains, IsPermutation}
use Rattle.std.specs.List.{cons_option, filter, filter_map}
use Rattle.std.proofs.lemmas.List.Elements.{All-cons, All-nil}
use Rattle.std.proofs.lemmas.List.Sorted.{IsPermutation-cons, IsPermutation-middle, IsPermutation-refl}
use Rattle.std.proofs.lemmas.List.Sorted.{IsPermutation-sym, IsPermutation-trans}
use Rattle.cell_num.specs.declared.finger.Row.{Row}
use Rattle.cell_num.specs.declared.finger.Row.TheVariants.{P, N}
use Rattle.cell_num.specs.declared.finger.Finger.{Finger}
use Rattle.cell_num.specs.declared.finger.Fingers.{Fingers}
use Rattle.cell_num.proofs.Lists.{contains_here, contains_there}
use Rattle.row_model.specs.declared.column.Placed.{Placed}
use Rattle.row_model.specs.declared.column.Column.{Column}
use Rattle.row_model.specs.Arrangement.{fingers_in, place}
use Rattle.trail_state.specs.declared.edge.Edge.{Edge}
use Rattle.trail_state.specs.declared.edge.FingerEnds.{FingerEnds}
use Rattle.trail_state.specs.Choices.{AreEdgesOf, IsEdgeOf}
use Rattle.trail_state.specs.Edges.{edge_of, pair_edges, pair_node}
use Rattle.trail_state.specs.Pairings.{nets_at}
use Rattle.trail_state.proofs.Members.{filter_off, filter_on}
use Rattle.trail_state.proofs.Paired.{turned_edge}
use Rattle.trail_halves.specs.Open.{half_in, half_of, is_filled, is_none}
use Rattle.trail_halves.proofs.Parted.{other_row}
use Rattle.trail_pools.proofs.Beside.{IsPair, Pair, e_of, x_of, y_of}

-- ---- the edge of a column of two fingers

turned : (a b c d : ℕ) → edge_of a b c d ≡ edge_of c d a b
turned a b c d = turned_edge (pair_node a b) (pair_node c d)

abbrev net_left : Bool → Finger → ℕ
net_left b x = (if b then x.hi else x.lo).0

abbrev net_right : Bool → Finger → ℕ
net_right b x = (if b then x.lo else x.hi).0

alike_there : (x y : Finger) → Contains (pair_edges (nets_at x) (nets_at y)) (edge_of x.lo.0 y.lo.0 x.hi.0 y.hi.0)
alike_there x y = contains_here (edge_of x.lo.0 y.lo.0 x.hi.0 y.hi.0) (edge_of x.lo.0 y.hi.0 x.hi.0 y.lo.0 ∷ [])

unlike_there : (x y : Finger) → Contains (pair_edges (nets_at x) (nets_at y)) (edge_of x.lo.0 y.hi.0 x.hi.0 y.lo.0)
unlike_there x y =
    contains_there (edge_of x.lo.0 y.lo.0 x.hi.0 y.hi.0) (edge_of x.lo.0 y.hi.0 x.hi.0 y.lo.0 ∷ [])
    (edge_of x.lo.0 y.hi.0 x.hi.0 y.lo.0) (contains_here (edge_of x.lo.0 y.hi.0 x.hi.0 y.lo.0) [])

pair_there : (x y : Finger) (a b : Bool) → Contains (pair_edges (nets_at x) (nets_at y))
    (edge_of (net_left a x) (net_left b y) (net_right a x) (net_right b y))
pair_there x y false false = alike_there x y
pair_there x y false true = unlike_there x y
pair_there x y true false =
    subst (Contains (pair_edges (nets_at x) (nets_at y))) (turned x.lo.0 y.hi.0 x.hi.0 y.lo.0) (unlike_there x y)
pair_there x y true true =
    subst (Contains (pair_edges (nets_at x) (nets_at y))) (turned x.lo.0 y.lo.0 x.hi.0 y.hi.0) (alike_there x y)

full_edge : (f : Fingers) (p n : Option Placed) (x y : Placed) (e : Edge) → p ≡ Some x → n ≡ Some y → IsEdgeOf f p n e
    → Contains (pair_edges (nets_at x.finger) (nets_at y.finger)) e
full_edge f p n x y e is_x is_y drawn =
    let is : IsEdgeOf f (Some x) (Some y) e =
    subst (λ o. IsEdgeOf f (Some x) o e) is_y (subst (λ o. IsEdgeOf f o n e) is_x drawn) in
    subst (Contains (pair_edges (nets_at x.finger) (nets_at y.finger))) (sym is)
    (pair_there x.finger y.finger x.flipped y.flipped)

abbrev pub pair_of : Placed → Placed → Edge → Pair
pair_of x y e = record { x = nets_at x.finger; y = nets_at y.finger; e = e }

edge_pair : (r : Row) (f : Fingers) (c : Column) (x y : Placed) (e : Edge) → place r c ≡ Some x
    → place (other_row r) c ≡ Some y → IsEdgeOf f c.p c.n e → IsPair r (pair_of x y e)
edge_pair P f c x y e is_x is_y drawn = full_edge f c.p c.n x y e is_x is_y drawn
edge_pair N f c x y e is_x is_y drawn = full_edge f c.p c.n y x e is_y is_x drawn

-- ---- a column's half edge

pub kept_none : {X Y : Type 0} (h : X → Option Y) (x : X) (xs : List X) → h x ≡ None →
    filter_map h (x ∷ xs) ≡ filter_map h xs
kept_none h x xs e = ap (λ o. cons_option o (filter_map h xs)) e

pub kept_some : {X Y : Type 0} (h : X → Option Y) (x : X) (y : Y) (xs : List X) → h x ≡ Some y → filter_map h (x ∷ xs)
    ≡ y ∷ filter_map h xs
kept_some h x y xs e = ap (λ o. cons_option o (filter_map h xs)) e

pub half_some : (r : Row) (c : Column) (x : Placed) → place r c ≡ Some x → place (other_row r) c ≡ None
    → half_in r c ≡ Some (nets_at x.finger)
half_some P c x is none = ap (λ o. half_of o c.n) is ∙ ap (half_of (Some x)) none
half_some N c x is none = ap (λ o. half_of o c.p) is ∙ ap (half_of (Some x)) none

pub half_none : (r : Row) (c : Column) (x y : Placed) → place r c ≡ Some x → place (other_row r) c ≡ Some y
    → half_in r c ≡ None
half_none P c x y is_x is_y = ap (λ o. half_of o c.n) is_x ∙ ap (half_of (Some x)) is_y
half_none N c x y is_x is_y = ap (λ o. half_of o c.p) is_x ∙ ap (half_of (Some x)) is_y

-- ---- columns

abbrev pub finger_at : Row → Column → Option Finger
finger_at r c = option_map (λ (x : Placed). x.finger) (place r c)

-- full columns as pairs, and the others as half edges
pub record Halved (r : Row) (cs : List Column) (es : List Edge) : Type 0 where
  pub pairs : List Pair
  pub are : All (IsPair r) pairs
  pub xs : IsPermutation (map nets_at (fingers_in r cs)) (map x_of pairs ++ filter_map (half_in r) cs)
  pub ys : map nets_at (fingers_in (other_row r) cs) ≡ map y_of pairs
  pub edges : map e_of pairs ≡ es

module _ (r : Row) (f : Fingers) where
  abbrev Rest : List Column → Type 0
  Rest cs = (es : List Edge) → AreEdgesOf f (filter (is_filled r) cs) es → Halved r cs es

  half_column : (c : Column) (cs : List Column) (x : Placed) (es : List Edge) → place r c ≡ Some x
      → place (other_row r) c ≡ None → Rest cs → AreEdgesOf f (filter (is_filled r) (c ∷ cs)) es
      → Halved r (c ∷ cs) es
  half_column c cs x es is none rest drawn =
      let half : half_in r c ≡ Some (nets_at x.finger) = half_some r c x is none in
      let skipped : filter (is_filled r) (c ∷ cs) ≡ filter (is_filled r) cs =
      filter_off (is_filled r) c cs (ap is_none half) in
      let m : Halved r cs es = rest es (subst (λ l. AreEdgesOf f l es) skipped drawn) in
      let hs : List FingerEnds = filter_map (half_in r) cs in
      let mine : fingers_in r (c ∷ cs) ≡ x.finger ∷ fingers_in r cs =
      kept_some (finger_at r) c x.finger cs (ap (option_map (λ (y : Placed). y.finger)) is) in
      let beside : fingers_in (other_row r) (c ∷ cs) ≡ fingers_in (other_row r) cs =
      kept_none (finger_at (other_row r)) c cs (ap (option_map (λ (y : Placed). y.finger)) none) in
      let more : filter_map (half_in r) (c ∷ cs) ≡ nets_at x.finger ∷ hs =
      kept_some (half_in r) c (nets_at x.finger) cs half in
      let put : IsPermutation (nets_at x.finger ∷ map nets_at (fingers_in r cs))
      (map x_of m.pairs ++ nets_at x.finger ∷ hs) =
      IsPermutation-trans (nets_at x.finger ∷ map nets_at (fingers_in r cs))
      (nets_at x.finger ∷ (map x_of m.pairs ++ hs)) (map x_of m.pairs ++ nets_at x.finger ∷ hs)
      (IsPermutation-cons (nets_at x.finger) (map nets_at (fingers_in r cs)) (map x_of m.pairs ++ hs) m.xs)
      (IsPermutation-sym (map x_of m.pairs ++ nets_at x.finger ∷ hs) (nets_at x.finger ∷ (map x_of m.pairs ++ hs))
      (IsPermutation-middle (map x_of m.pairs) (nets_at x.finger) hs)) in
      record {
        pairs = m.pairs;
        are = m.are;
        xs =
            subst (λ l. IsPermutation (map nets_at l) (map x_of m.pairs ++ filter_map (half_in r) (c ∷ cs))) (sym mine)
            (subst (λ l. IsPermutation (nets_at x.finger ∷ map nets_at (fingers_in r cs)) (map x_of m.pairs ++ l))
            (sym more) put);
        ys = ap (map nets_at) beside ∙ m.ys;
        edges = m.edges;
      }

  full_column : (c : Column) (cs : List Column) (x y : Placed) (es : List Edge) → place r c ≡ Some x
      → place (other_row r) c ≡ Some y → Rest cs → AreEdgesOf f (c ∷ filter (is_filled r) cs) es
      → Halved r (c ∷ cs) es
  full_column c cs x y [] is_x is_y rest drawn = absurd drawn
  full_column c cs x y (e ∷ es) is_x is_y rest drawn =
      let m : Halved r cs es = rest es drawn.1 in
      let hs : List FingerEnds = filter_map (half_in r) cs in
      let p : Pair = pair_of x y e in
      let mine : fingers_in r (c ∷ cs) ≡ x.finger ∷ fingers_in r cs =
      kept_some (finger_at r) c x.finger cs (ap (option_map (λ (z : Placed). z.finger)) is_x) in
      let beside : fingers_in (other_row r) (c ∷ cs) ≡ y.finger ∷ fingers_in (other_row r) cs =
      kept_some (finger_at (other_row r)) c y.finger cs (ap (option_map (λ (z : Placed). z.finger)) is_y) in
      let same : filter_map (half_in r) (c ∷ cs) ≡ hs = kept_none (half_in r) c cs (half_none r c x y is_x is_y) in
      let put : IsPermutation (p.x ∷ map nets_at (fingers_in r cs)) (p.x ∷ (map x_of m.pairs ++ hs)) =
      IsPermutation-cons p.x (map nets_at (fingers_in r cs)) (map x_of m.pairs ++ hs) m.xs in
      record {
        pairs = p ∷ m.pairs;
        are = All-cons (IsPair r) p m.pairs (edge_pair r f c x y e is_x is_y drawn.0) m.are;
        xs =
            subst (λ l. IsPermutation (map nets_at l) (p.x ∷ (map x_of m.pairs ++ filter_map (half_in r) (c ∷ cs))))
            (sym mine)
            (subst (λ l. IsPermutation (p.x ∷ map nets_at (fingers_in r cs)) (p.x ∷ (map x_of m.pairs ++ l))) (sym same)
            put);
        ys = ap (map nets_at) beside ∙ ap (λ l. p.y ∷ l) m.ys;
        edges = ap (λ l. e ∷ l) m.edges;
      }

  one_column : (c : Column) (cs : List Column) (o q : Option Placed) (es : List Edge) → place r c ≡ o
      → place (other_row r) c ≡ q → place r c ≢ None → Rest cs → AreEdgesOf f (filter (is_filled r) (c ∷ cs)) es
      → Halved r (c ∷ cs) es
  one_column c cs None q es is_o is_q some rest drawn = absurd (some is_o)
  one_column c cs (Some x) None es is_o is_q some rest drawn = half_column c cs x es is_o is_q rest drawn
  one_column c cs (Some x) (Some y) es is_o is_q some rest drawn =
      full_column c cs x y es is_o is_q rest
      (subst (λ l. AreEdgesOf f l es)
      (filter_on (is_filled r) c cs (ap is_none (half_none r c x y is_o is_q))) drawn)

  pub halved : (cs : List Column) (es : List Edge) → ((c : Column) → Contains cs c → place r c ≢ None)
      → AreEdgesOf f (filter (is_filled r) cs) es → Halved r cs es
  halved [] [] all drawn = record {
    pairs = [];
    are = All-nil (IsPair r);
    xs = IsPermutation-refl [];
    ys = refl;
    edges = refl;
  }
  halved [] (e ∷ es) all drawn = absurd drawn
  halved (c ∷ cs) es all drawn =
      one_column c cs (place r c) (place (other_row r) c) es refl refl (all c (contains_here c cs))
      (λ ds h. halved cs ds (λ d k. all d (contains_there c cs d k)) h) drawn
