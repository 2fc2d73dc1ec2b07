-- Pieces by kind, and conductor cells by the pieces that hold them.
use Rattle.std.proofs.Common.{◌≡◌, Bool, true, false, if◌then◌else◌, List, [], ◌∷◌, arith, refl, sym, subst, inl, inr, IsPermutation}
use Rattle.std.specs.List.{All, Contains}
use Rattle.std.proofs.lemmas.Int.{ints}
use Rattle.std.proofs.lemmas.List.Elements.{All-contains}
use Rattle.std.proofs.lemmas.List.Sorted.{Contains-permutation, IsPermutation-sym}
use Rattle.cell_num.proofs.Lists.{contains_none, contains_cons, contains_here, contains_there, all_from_contains}
use Rattle.box_geom.specs.Rectangle.{Rectangle, IsProper, Holds}
use Rattle.box_geom.specs.declared.shape.Shape.{Shape}
use Rattle.net_extract.specs.Nets.{Site, Conducts}
use Rattle.net_extract.specs.Bonds.{AreDrawn, IsPieceOf, IsIn}
use Rattle.net_extract.specs.Pieces.{is_of, rect_of, corner_of, rects_in}
use Rattle.net_extract.specs.declared.piece.Conductor.{Conductor}
use Rattle.net_extract.specs.declared.piece.Conductor.TheVariants.{PDiffusion, NDiffusion, Poly, Metal1, Metal2}
use Rattle.net_extract.specs.declared.piece.Piece.{Piece}

pub is_own : (c : Conductor) → is_of c c ≡ true
is_own PDiffusion = refl
is_own NDiffusion = refl
is_own Poly = refl
is_own Metal1 = refl
is_own Metal2 = refl

pub kind_is : (k : Conductor) (c : Conductor) → is_of k c ≡ true → c ≡ k
kind_is PDiffusion PDiffusion e = refl
kind_is PDiffusion NDiffusion e = absurd (cc e)
kind_is PDiffusion Poly e = absurd (cc e)
kind_is PDiffusion Metal1 e = absurd (cc e)
kind_is PDiffusion Metal2 e = absurd (cc e)
kind_is NDiffusion PDiffusion e = absurd (cc e)
kind_is NDiffusion NDiffusion e = refl
kind_is NDiffusion Poly e = absurd (cc e)
kind_is NDiffusion Metal1 e = absurd (cc e)
kind_is NDiffusion Metal2 e = absurd (cc e)
kind_is Poly PDiffusion e = absurd (cc e)
kind_is Poly NDiffusion e = absurd (cc e)
kind_is Poly Poly e = refl
kind_is Poly Metal1 e = absurd (cc e)
kind_is Poly Metal2 e = absurd (cc e)
kind_is Metal1 PDiffusion e = absurd (cc e)
kind_is Metal1 NDiffusion e = absurd (cc e)
kind_is Metal1 Poly e = absurd (cc e)
kind_is Metal1 Metal1 e = refl
kind_is Metal1 Metal2 e = absurd (cc e)
kind_is Metal2 PDiffusion e = absurd (cc e)
kind_is Metal2 NDiffusion e = absurd (cc e)
kind_is Metal2 Poly e = absurd (cc e)
kind_is Metal2 Metal1 e = absurd (cc e)
kind_is Metal2 Metal2 e = refl

-- a piece of the list with that kind and that rectangle
pub record Listed (ps : List Piece) (k : Conductor) (r : Rectangle) : Type 0 where
  pub piece : Piece
  pub listed : Contains ps piece
  pub kind : piece.kind ≡ k
  pub rect : rect_of piece ≡ r

pub listed_of : (ps : List Piece) (k : Conductor) (r : Rectangle) → Contains (rects_in ps k) r → Listed ps k r
listed_of [] k r c = absurd (contains_none r c)
listed_of (p ∷ ps) k r c = by (is_of k p.kind) refl c (λ d. listed_of ps k r d)
  where
    later : Listed ps k r → Listed (p ∷ ps) k r
    later l = record { piece = l.piece; listed = contains_there p ps l.piece l.listed; kind = l.kind; rect = l.rect }

    by : (b : Bool) → is_of k p.kind ≡ b → Contains (if b then rect_of p ∷ rects_in ps k else rects_in ps k) r → (Contains (rects_in ps k) r → Listed ps k r) → Listed (p ∷ ps) k r
    by true e d go = elim (contains_cons (rect_of p) (rects_in ps k) r d) [
      | inl same ↦ record { piece = p; listed = contains_here p ps; kind = kind_is k p.kind e; rect = same }
      | inr rest ↦ later (go rest)
    ]
    by false e d go = later (go d)

pub of_listed : (ps : List Piece) (p : Piece) (k : Conductor) → Contains ps p → p.kind ≡ k → Contains (rects_in ps k) (rect_of p)
of_listed [] p k c e = absurd (contains_none p c)
of_listed (q ∷ qs) p k c e =
    elim (contains_cons q qs p c) [
      | inl same ↦
          let mine : is_of k q.kind ≡ true = subst (λ z. is_of k z.kind ≡ true) (sym same) (subst (λ z. is_of z p.kind ≡ true) e (is_own p.kind)) in
          subst (λ z. Contains (rects_in (q ∷ qs) k) (rect_of z)) same (rw mine (contains_here (rect_of q) (rects_in qs k)))
      | inr rest ↦ by (is_of k q.kind) (of_listed qs p k rest e)
    ]
  where
    by : (b : Bool) → Contains (rects_in qs k) (rect_of p) → Contains (if b then rect_of q ∷ rects_in qs k else rects_in qs k) (rect_of p)
    by true d = contains_there (rect_of q) (rects_in qs k) (rect_of p) d
    by false d = d

pub piece_listed : (ps : List Piece) (p : Piece) → Contains ps p → IsPieceOf (rects_in ps) p
piece_listed ps p c = of_listed ps p p.kind c refl

-- lists with the same pieces draw the same
pub drawn_alike : (s : List Shape) (ps qs : List Piece) → ((p : Piece) → Contains ps p → Contains qs p) → ((p : Piece) → Contains qs p → Contains ps p) → AreDrawn s (rects_in ps) → AreDrawn s (rects_in qs)
drawn_alike s ps qs there back d = record {
  covered = λ k x y a. let c = d.covered k x y a in record { rect = c.rect; listed = moved ps qs there k c.rect c.listed; holds = c.holds };
  conducts = λ k x y c. d.conducts k x y (record { rect = c.rect; listed = moved qs ps back k c.rect c.listed; holds = c.holds });
  proper = λ k. all_from_contains IsProper (rects_in qs k) (λ r c. All-contains IsProper (rects_in ps k) r (d.proper k) (moved qs ps back k r c));
}
  where
    moved : (xs ys : List Piece) → ((p : Piece) → Contains xs p → Contains ys p) → (k : Conductor) (r : Rectangle) → Contains (rects_in xs k) r → Contains (rects_in ys k) r
    moved xs ys f k r c = let l = listed_of xs k r c in subst (Contains (rects_in ys k)) l.rect (of_listed ys l.piece k (f l.piece l.listed) l.kind)

pub drawn_permuted : (s : List Shape) (ps qs : List Piece) → IsPermutation ps qs → AreDrawn s (rects_in ps) → AreDrawn s (rects_in qs)
drawn_permuted s ps qs m d = drawn_alike s ps qs (λ p c. Contains-permutation ps qs p m c) (λ p c. Contains-permutation qs ps p (IsPermutation-sym ps qs m) c) d

pub piece_proper : (s : List Shape) (ps : List Piece) → AreDrawn s (rects_in ps) → (p : Piece) → Contains ps p → IsProper (rect_of p)
piece_proper s ps d p c = All-contains IsProper (rects_in ps p.kind) (rect_of p) (d.proper p.kind) (piece_listed ps p c)

pub all_proper : (s : List Shape) (ps : List Piece) → AreDrawn s (rects_in ps) → All (λ p. IsProper (rect_of p)) ps
all_proper s ps d = all_from_contains (λ p. IsProper (rect_of p)) ps (piece_proper s ps d)

pub corner_in : (p : Piece) → IsProper (rect_of p) → IsIn p (corner_of p)
corner_in p proper = record { kind = refl; holds = (let w = proper.wide in let h = proper.high in omega (arith, ints)) }

pub corner_conducts : (s : List Shape) (ps : List Piece) → AreDrawn s (rects_in ps) → (p : Piece) → Contains ps p → Conducts s (corner_of p)
corner_conducts s ps d p c = d.conducts p.kind p.left p.low (record { rect = rect_of p; listed = piece_listed ps p c; holds = (corner_in p (piece_proper s ps d p c)).holds })

-- the piece that holds a conductor cell
pub record Held (ps : List Piece) (a : Site) : Type 0 where
  pub piece : Piece
  pub listed : Contains ps piece
  pub inside : IsIn piece a

pub held : (s : List Shape) (ps : List Piece) → AreDrawn s (rects_in ps) → (a : Site) → Conducts s a → Held ps a
held s ps d a is =
    let c = d.covered a.kind a.cell.x a.cell.y is in
    let l = listed_of ps a.kind c.rect c.listed in
    record { piece = l.piece; listed = l.listed; inside = record { kind = l.kind; holds = subst (λ z. Holds z a.cell.x a.cell.y) (sym l.rect) c.holds } }

-- a cell of a piece is conductor
pub inside_conducts : (s : List Shape) (ps : List Piece) → AreDrawn s (rects_in ps) → (p : Piece) → Contains ps p → (a : Site) → IsIn p a → Conducts s a
inside_conducts s ps d p c a i = d.conducts a.kind a.cell.x a.cell.y (record { rect = rect_of p; listed = of_listed ps p a.kind c i.kind; holds = i.holds })
