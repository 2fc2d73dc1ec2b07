-- Rectangles of conductor as the code lists them.
use Rattle.std.specs.Prelude.{ℕ, Bool, true, false, if◌then◌else◌, Some, Option, None, List, [], ◌∷◌}
use Rattle.std.specs.declared.cmp.Ordering.{Ordering}
use Rattle.std.specs.Ordering.{nat_cmp, int_cmp, ordering_then}
use Rattle.box_geom.specs.Rectangle.{Rectangle}
use Rattle.box_geom.specs.declared.layer.Layer.{Layer}
use Rattle.box_geom.specs.declared.layer.Layer.TheVariants.{Contact, Via}
use Rattle.net_extract.specs.Nets.{Site, site_at}
use Rattle.net_extract.specs.declared.piece.Conductor.{Conductor}
use Rattle.net_extract.specs.declared.piece.Conductor.TheVariants.{PDiffusion, NDiffusion, Poly, Metal1, Metal2}
use Rattle.net_extract.specs.declared.piece.Piece.{Piece}

-- the place of a kind in the list of kinds
abbrev pub place : Conductor → ℕ
place PDiffusion = 0
place NDiffusion = 1
place Poly = 2
place Metal1 = 3
place Metal2 = 4

abbrev pub rect_of : Piece → Rectangle
rect_of p = record { x1 = p.left; y1 = p.low; x2 = p.right; y2 = p.top }

-- a rectangle as a piece of a kind
abbrev pub piece_of : Conductor → Rectangle → Piece
piece_of k r = record { low = r.y1; left = r.x1; kind = k; top = r.y2; right = r.x2 }

-- the first cell of a piece
abbrev pub corner_of : Piece → Site
corner_of p = site_at p.kind p.left p.low

-- the kinds are one
abbrev pub is_of : Conductor → Conductor → Bool
is_of PDiffusion PDiffusion = true
is_of NDiffusion NDiffusion = true
is_of Poly Poly = true
is_of Metal1 Metal1 = true
is_of Metal2 Metal2 = true
is_of _ _ = false

-- the rectangles of one kind
abbrev pub rects_in : List Piece → Conductor → List Rectangle
rects_in [] k = []
rects_in (p ∷ ps) k = if is_of k p.kind then rect_of p ∷ rects_in ps k else rects_in ps k

-- by first cells
abbrev pub piece_cmp : Piece → Piece → Ordering
piece_cmp a b =
    ordering_then (int_cmp a.low b.low) (ordering_then (int_cmp a.left b.left)
    (ordering_then (nat_cmp (place a.kind) (place b.kind))
    (ordering_then (int_cmp a.top b.top) (int_cmp a.right b.right))))

-- the layer whose shapes link two kinds
abbrev pub link_layer : Conductor → Conductor → Option Layer
link_layer Metal1 PDiffusion = Some Contact
link_layer Metal1 NDiffusion = Some Contact
link_layer Metal1 Poly = Some Contact
link_layer PDiffusion Metal1 = Some Contact
link_layer NDiffusion Metal1 = Some Contact
link_layer Poly Metal1 = Some Contact
link_layer Metal1 Metal2 = Some Via
link_layer Metal2 Metal1 = Some Via
link_layer _ _ = None
