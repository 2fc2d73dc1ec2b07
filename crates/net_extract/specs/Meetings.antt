-- The comparisons by which the code decides whether pieces are bonded.
use Rattle.std.specs.Prelude.{ℤ, int_lt, Bool, true, false, ◌&&◌, ◌==◌, Option, Some, None}
use Rattle.std.specs.Int.{int_max, int_min}
use Rattle.box_geom.specs.Rectangle.{Rectangle}
use Rattle.box_geom.specs.Layers.{same_layer}
use Rattle.box_geom.specs.Comparisons.{overlapping, touching}
use Rattle.box_geom.specs.declared.shape.Shape.{Shape}
use Rattle.box_geom.specs.declared.layer.Layer.{Layer}
use Rattle.box_geom.specs.declared.layer.Layer.TheVariants.{Contact, Via}
use Rattle.net_extract.specs.Pieces.{place, rect_of}
use Rattle.net_extract.specs.declared.piece.Conductor.{Conductor}
use Rattle.net_extract.specs.declared.piece.Conductor.TheVariants.{Metal1, Metal2}
use Rattle.net_extract.specs.declared.piece.Piece.{Piece}

-- three spans have a place in common
unfoldable pub sharing : ℤ → ℤ → ℤ → ℤ → ℤ → ℤ → Bool
sharing a b c d e f = int_lt (int_max (int_max a c) e) (int_min (int_min b d) f)

-- three rectangles have a column, or a row, in common
abbrev pub crossing_across : Rectangle → Rectangle → Rectangle → Bool
crossing_across a b c = sharing a.x1 a.x2 b.x1 b.x2 c.x1 c.x2

abbrev pub crossing_upward : Rectangle → Rectangle → Rectangle → Bool
crossing_upward a b c = sharing a.y1 a.y2 b.y1 b.y2 c.y1 c.y2

abbrev pub crossing : Rectangle → Rectangle → Rectangle → Bool
crossing a b c = crossing_across a b c && crossing_upward a b c

-- two rectangles have a cell in common
abbrev pub sharing_cell : Rectangle → Rectangle → Bool
sharing_cell a b = overlapping a.x1 a.x2 b.x1 b.x2 && overlapping a.y1 a.y2 b.y1 b.y2

-- the shape is of the layer, and has a cell that two rectangles have in common
abbrev pub linking : Shape → Option Layer → Rectangle → Rectangle → Bool
linking z (Some layer) a b = same_layer z.layer layer && crossing a b z.rect
linking z None a b = false

-- the kinds that contacts link, and those that vias link
abbrev pub links_kind : Layer → Conductor → Bool
links_kind Contact Metal2 = false
links_kind Contact _ = true
links_kind Via Metal1 = true
links_kind Via Metal2 = true
links_kind _ _ = false

-- the piece is of a kind that the contact or via links, and has a cell in common with it
abbrev pub is_reached : Shape → Piece → Bool
is_reached z p = links_kind z.layer p.kind && sharing_cell (rect_of p) z.rect

-- two pieces are of one kind and touch
abbrev pub bonding : Piece → Piece → Bool
bonding a b = (place a.kind == place b.kind) && touching (rect_of a) (rect_of b)
