-- Columns of which some are filled have edges with those of the filled ones.
use Rattle.std.proofs.Common.{ℕ, ◌≡◌, ◌==◌, true, List, [], ◌∷◌, Option, Some, None, refl, sym, ap, subst, inl, inr}
use Rattle.std.proofs.Common.{Contains}
use Rattle.std.specs.List.{filter}
use Rattle.std.proofs.lemmas.Bool.{eq-eqb, or_left}
use Rattle.cell_num.specs.declared.finger.Row.{Row}
use Rattle.cell_num.specs.declared.finger.Row.TheVariants.{P, N}
use Rattle.cell_num.specs.declared.finger.Finger.{Finger}
use Rattle.cell_num.specs.declared.finger.Fingers.{Fingers}
use Rattle.cell_num.proofs.Lists.{contains_cons, contains_here, contains_there}
use Rattle.row_model.specs.declared.column.Placed.{Placed}
use Rattle.row_model.specs.declared.column.Column.{Column}
use Rattle.row_model.specs.Gaps.{left_net, right_net}
use Rattle.trail_state.specs.declared.edge.Edge.{Edge}
use Rattle.trail_state.specs.declared.edge.FingerEnds.{FingerEnds}
use Rattle.trail_state.specs.Choices.{AreEdgesOf, IsEdgeOf}
use Rattle.trail_state.specs.Edges.{edge_of}
use Rattle.trail_state.specs.Nodes.{is_net_in}
use Rattle.trail_state.proofs.Members.{filter_off, filter_on}
use Rattle.trail_state.proofs.Opened.{in_net}
use Rattle.trail_halves.specs.Open.{half_in, is_filled, is_none}
use Rattle.trail_halves.proofs.Parted.{Alone, alone_in}

-- some net of a row
some_net : (fs : List Finger) → (v : ℕ) × (is_net_in fs v ≡ true)
some_net [] = (0, refl)
some_net (x ∷ xs) = (
  x.lo.0,
  in_net (x ∷ xs) x.lo.0 x (contains_here x xs)
      (or_left (x.lo.0 == x.lo.0) (x.hi.0 == x.lo.0) (eq-eqb x.lo.0 x.lo.0 refl)),
)

-- some edge of a half column
record Drawn (f : Fingers) (x y : Option Placed) : Type 0 where
  pub edge : Edge
  pub is : IsEdgeOf f x y edge

p_drawn : (f : Fingers) (x : Placed) → Drawn f (Some x) None
p_drawn f x =
    let s : (v : ℕ) × (is_net_in f.n v ≡ true) = some_net f.n in
    record {
      edge = edge_of (left_net x).0 s.0 (right_net x).0 s.0;
      is = (s.0, s.0, s.1, s.1, refl);
    }

n_drawn : (f : Fingers) (y : Placed) → Drawn f None (Some y)
n_drawn f y =
    let s : (v : ℕ) × (is_net_in f.p v ≡ true) = some_net f.p in
    record {
      edge = edge_of s.0 (left_net y).0 s.0 (right_net y).0;
      is = (s.0, s.0, s.1, s.1, refl);
    }

half_drawn : (f : Fingers) (r : Row) (c : Column) (half : FingerEnds) → half_in r c ≡ Some half → Drawn f c.p c.n
half_drawn f P c half is =
    let a : Alone c.p c.n half = alone_in P c half is in
    subst (λ o. Drawn f o c.n) (sym a.stands) (subst (Drawn f (Some a.it)) (sym a.none) (p_drawn f a.it))
half_drawn f N c half is =
    let a : Alone c.n c.p half = alone_in N c half is in
    subst (λ o. Drawn f c.p o) (sym a.stands) (subst (λ o. Drawn f o (Some a.it)) (sym a.none) (n_drawn f a.it))

-- the edges of all columns, with those of the filled ones
pub record Completed (f : Fingers) (cs : List Column) (es : List Edge) : Type 0 where
  pub all : List Edge
  pub are : AreEdgesOf f cs all
  pub more : (e : Edge) → Contains es e → Contains all e

pub completed : (f : Fingers) (r : Row) (cs : List Column) (es : List Edge) → AreEdgesOf f (filter (is_filled r) cs) es
    → Completed f cs es
completed f r [] [] h = record { all = []; are = tt; more = λ e k. k }
completed f r [] (e ∷ es) h = absurd h
completed f r (c ∷ cs) es h = by (λ ds k. completed f r cs ds k) (half_in r c) refl
  where
    Rest : Type 0
    Rest = (ds : List Edge) → AreEdgesOf f (filter (is_filled r) cs) ds → Completed f cs ds

    full : Rest → (ds : List Edge) → AreEdgesOf f (c ∷ filter (is_filled r) cs) ds → Completed f (c ∷ cs) ds
    full more [] k = absurd k
    full more (d ∷ ds) k =
        let rest : Completed f cs ds = more ds k.1 in
        record {
          all = d ∷ rest.all;
          are = (k.0, rest.are);
          more = λ e j. elim (contains_cons d ds e j) [
            | inl same ↦ subst (Contains (d ∷ rest.all)) same (contains_here d rest.all)
            | inr later ↦ contains_there d rest.all e (rest.more e later)
          ];
        }

    by : Rest → (o : Option FingerEnds) → half_in r c ≡ o → Completed f (c ∷ cs) es
    by more (Some half) is =
        let d : Drawn f c.p c.n = half_drawn f r c half is in
        let rest : Completed f cs es =
        more es (subst (λ l. AreEdgesOf f l es) (filter_off (is_filled r) c cs (ap is_none is)) h) in
        record {
          all = d.edge ∷ rest.all;
          are = (d.is, rest.are);
          more = λ e k. contains_there d.edge rest.all e (rest.more e k);
        }
    by more None is =
        full more es (subst (λ l. AreEdgesOf f l es) (filter_on (is_filled r) c cs (ap is_none is)) h)
