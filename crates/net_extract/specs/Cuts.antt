-- Pieces that are cut by rectangles.
use Rattle.std.specs.Prelude.{◌≡◌, int_lt, Bool, ◌&&◌, if◌then◌else◌, List, [], ◌∷◌, ◌++◌, fold}
use Rattle.std.specs.Int.{int_max, int_min}
use Rattle.std.specs.List.{flat_map, filter}
use Rattle.box_geom.specs.Rectangle.{Rectangle}
use Rattle.box_geom.specs.Layers.{same_layer}
use Rattle.box_geom.specs.declared.shape.Shape.{Shape}
use Rattle.box_geom.specs.declared.layer.Layer.{Layer}
use Rattle.box_geom.specs.declared.layer.Layer.TheVariants.{Well, Active, Poly as PolyLayer}
use Rattle.box_geom.specs.declared.layer.Layer.TheVariants.{Metal1 as Metal1Layer, Metal2 as Metal2Layer}
use Rattle.net_extract.specs.Meetings.{sharing_cell}
use Rattle.net_extract.specs.Pieces.{rect_of, piece_of}
use Rattle.net_extract.specs.declared.piece.Conductor.{Conductor}
use Rattle.net_extract.specs.declared.piece.Conductor.TheVariants.{PDiffusion, NDiffusion, Poly, Metal1, Metal2}
use Rattle.net_extract.specs.declared.piece.Piece.{Piece}

abbrev pub is_some_piece : Piece → Bool
is_some_piece p = int_lt p.left p.right && int_lt p.low p.top

-- the piece, where it has cells
abbrev pub kept : Piece → List Piece
kept p = if is_some_piece p then p ∷ [] else []

abbrev pub left_part : Piece → Rectangle → Piece
left_part p r = record { low = p.low; left = p.left; kind = p.kind; top = p.top; right = int_min p.right r.x1 }

abbrev pub right_part : Piece → Rectangle → Piece
right_part p r = record { low = p.low; left = int_max p.left r.x2; kind = p.kind; top = p.top; right = p.right }

abbrev pub low_part : Piece → Rectangle → Piece
low_part p r = record {
  low = p.low;
  left = int_max p.left r.x1;
  kind = p.kind;
  top = int_min p.top r.y1;
  right = int_min p.right r.x2;
}

abbrev pub high_part : Piece → Rectangle → Piece
high_part p r = record {
  low = int_max p.low r.y2;
  left = int_max p.left r.x1;
  kind = p.kind;
  top = p.top;
  right = int_min p.right r.x2;
}

-- what is left of a piece without a rectangle
abbrev pub around : Rectangle → Piece → List Piece
around r p = kept (left_part p r) ++ (kept (right_part p r) ++ (kept (low_part p r) ++ kept (high_part p r)))

-- what a piece and a rectangle have in common
abbrev pub common_part : Piece → Rectangle → Piece
common_part p r = record {
  low = int_max p.low r.y1;
  left = int_max p.left r.x1;
  kind = p.kind;
  top = int_min p.top r.y2;
  right = int_min p.right r.x2;
}

abbrev pub shared_part : Rectangle → Piece → List Piece
shared_part r p = kept (common_part p r)

-- the same, and a piece that has no cell in common with the rectangle stays whole
abbrev pub carved : Rectangle → Piece → List Piece
carved r p = if sharing_cell (rect_of p) r then around r p else p ∷ []

-- what is left of the parts of a piece without one more shape, which is looked at where it meets the piece
abbrev pub carved_once : Piece → List Piece → Shape → List Piece
carved_once p parts s = if sharing_cell (rect_of p) s.rect then flat_map (carved s.rect) parts else parts

-- what is left of a piece, and of pieces, without shapes
abbrev pub left_of_piece : List Shape → Piece → List Piece
left_of_piece shapes p = fold (carved_once p) (p ∷ []) shapes

abbrev pub left_of_pieces : List Shape → List Piece → List Piece
left_of_pieces shapes ps = flat_map (left_of_piece shapes) ps

abbrev pub shapes_on : Layer → List Shape → List Shape
shapes_on layer shapes = filter (λ (s : Shape). same_layer s.layer layer) shapes

-- the shapes of three layers by themselves
pub record AreApart (all wells actives polys : List Shape) : Type 0 where
  pub well : wells ≡ shapes_on Well all
  pub active : actives ≡ shapes_on Active all
  pub poly : polys ≡ shapes_on PolyLayer all

-- what is left of pieces without the shapes of a layer
abbrev pub cut_all : Layer → List Piece → List Shape → List Piece
cut_all layer ps shapes = left_of_pieces (shapes_on layer shapes) ps

-- what pieces have in common with the shapes of a layer
abbrev pub shared_once : Layer → List Piece → Shape → List Piece
shared_once layer ps s = if same_layer s.layer layer then flat_map (shared_part s.rect) ps else []

abbrev pub shared_all : Layer → List Piece → List Shape → List Piece
shared_all layer ps shapes = flat_map (shared_once layer ps) shapes

-- the rectangles of a layer as pieces of a kind
abbrev pub drawn_once : Conductor → Layer → Shape → List Piece
drawn_once k layer s = if same_layer s.layer layer then piece_of k s.rect ∷ [] else []

abbrev pub drawn_all : Conductor → Layer → List Shape → List Piece
drawn_all k layer shapes = flat_map (drawn_once k layer) shapes

abbrev pub p_diffusion_in : List Shape → List Piece
p_diffusion_in shapes = cut_all PolyLayer (shared_all Well (drawn_all PDiffusion Active shapes) shapes) shapes

abbrev pub n_diffusion_in : List Shape → List Piece
n_diffusion_in shapes = cut_all PolyLayer (cut_all Well (drawn_all NDiffusion Active shapes) shapes) shapes

-- all conductor of a drawing
abbrev pub pieces_in : List Shape → List Piece
pieces_in shapes =
    (((p_diffusion_in shapes ++ n_diffusion_in shapes) ++ drawn_all Poly PolyLayer shapes)
    ++ drawn_all Metal1 Metal1Layer shapes) ++ drawn_all Metal2 Metal2Layer shapes

abbrev pub gates_in : List Shape → List Piece
gates_in shapes = shared_all PolyLayer (drawn_all Poly Active shapes) shapes

-- a piece as a shape of poly
abbrev pub poly_of : Piece → Shape
poly_of p = record { layer = PolyLayer; rect = rect_of p }
