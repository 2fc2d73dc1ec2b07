-- Nets seen on rectangles of conductor in place of cells.
use Rattle.std.specs.Prelude.{◌≡◌, ℕ, ℤ, Some, slice_get, List}
use Rattle.std.specs.List.{All, Contains}
use Rattle.box_geom.specs.Rectangle.{Rectangle, IsProper, Holds, Covers}
use Rattle.box_geom.specs.Touching.{Touch}
use Rattle.box_geom.specs.declared.shape.Shape.{Shape}
use Rattle.scmos_rules.specs.declared.rules.Deck.{Deck}
use Rattle.scmos_rules.specs.declared.rules.Deck.TheVariants.{Taps}
use Rattle.net_extract.specs.Nets.{Site, site_at, Are, Through, Tied}
use Rattle.net_extract.specs.Pieces.{rect_of}
use Rattle.net_extract.specs.declared.piece.Conductor.{Conductor}
use Rattle.net_extract.specs.declared.piece.Piece.{Piece}

-- the conductor cells of each kind are the cells of a list of rectangles
pub record AreDrawn (s : List Shape) (rs : Conductor → List Rectangle) : Type 0 where
  pub covered : (k : Conductor) (x y : ℤ) → Are s k x y → Covers (rs k) x y
  pub conducts : (k : Conductor) (x y : ℤ) → Covers (rs k) x y → Are s k x y
  pub proper : (k : Conductor) → All IsProper (rs k)

-- a cell that two pieces have in common, with a contact or a via that links their kinds
pub record AreJoined (s : List Shape) (p q : Piece) : Type 0 where
  pub x : ℤ
  pub y : ℤ
  pub in_p : Holds (rect_of p) x y
  pub in_q : Holds (rect_of q) x y
  pub through : Through s x y p.kind q.kind

-- a tap in each of two pieces, tied to each other
pub record AreTied (s : List Shape) (p q : Piece) : Type 0 where
  pub x : ℤ
  pub y : ℤ
  pub u : ℤ
  pub v : ℤ
  pub in_p : Holds (rect_of p) x y
  pub in_q : Holds (rect_of q) u v
  pub tied : Tied s (site_at p.kind x y) (site_at q.kind u v)

pub data Bond (deck : Deck) (s : List Shape) (p q : Piece) : Type 0 where
  touching : p.kind ≡ q.kind → Touch (rect_of p) (rect_of q) → Bond deck s p q
  joining : AreJoined s p q → Bond deck s p q
  tying : deck ≡ Taps → AreTied s p q → Bond deck s p q

-- two pieces of the lists are of one kind and touch, or a contact or a via links them
pub record Bonded (deck : Deck) (s : List Shape) (rs : Conductor → List Rectangle) (p q : Piece) : Type 0 where
  pub from : Contains (rs p.kind) (rect_of p)
  pub to : Contains (rs q.kind) (rect_of q)
  pub bond : Bond deck s p q

-- the piece is one of the lists
abbrev pub IsPieceOf : (Conductor → List Rectangle) → Piece → Type 0
IsPieceOf rs p = Contains (rs p.kind) (rect_of p)

-- the site is a cell of the piece
pub record IsIn (p : Piece) (a : Site) : Type 0 where
  pub kind : p.kind ≡ a.kind
  pub holds : Holds (rect_of p) a.cell.x a.cell.y

-- pieces number i and j are bonded
pub record Paired (deck : Deck) (s : List Shape) (ps : List Piece) (i j : ℕ) : Type 0 where
  pub one : Piece
  pub other : Piece
  pub at_one : slice_get ps i ≡ Some one
  pub at_other : slice_get ps j ≡ Some other
  pub bond : Bond deck s one other
