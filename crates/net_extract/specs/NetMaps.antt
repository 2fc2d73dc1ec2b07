-- The nets of a drawing as its callers look them up.
use Rattle.std.specs.Prelude.{◌≡◌, ◌↔◌, ℕ, ◌<◌, ℤ, Bool, ◌&&◌, ◌==◌, Option, Some, List, map, length}
use Rattle.std.specs.Cmp.Lexicographic.{slice_cmp}
use Rattle.std.specs.List.{All, Contains, filter, find}
use Rattle.std.specs.List.Sorted.{IsSortedByKey}
use Rattle.std.specs.Option.{option_map}
use Rattle.std.specs.Ordering.{nat_cmp}
use Rattle.std.specs.Str.{bytes_eq}
use Rattle.box_geom.specs.Comparisons.{holding}
use Rattle.box_geom.specs.Layers.{same_layer}
use Rattle.box_geom.specs.Rectangle.{Rectangle, Holds, Covers}
use Rattle.box_geom.specs.Regions.{IsBlock}
use Rattle.box_geom.specs.declared.layer.Layer.{Layer}
use Rattle.box_geom.specs.declared.shape.Shape.{Shape}
use Rattle.box_geom.specs.declared.shape.Shapes.{Shapes}
use Rattle.scmos_rules.specs.declared.rules.Deck.{Deck}
use Rattle.net_extract.specs.Extraction.{AreRegular, IsLabelled}
use Rattle.net_extract.specs.Labels.{IsConductorAt}
use Rattle.net_extract.specs.Naming.{IsAgreed, names_of}
use Rattle.net_extract.specs.Nets.{layer_of, Site}
use Rattle.net_extract.specs.Numbering.{IsInNet}
use Rattle.net_extract.specs.Pieces.{rect_of}
use Rattle.net_extract.specs.declared.connections.Wire.{Wire}
use Rattle.net_extract.specs.declared.naming.NetLabel.{NetLabel}
use Rattle.net_extract.specs.declared.net_piece.NetPiece.{NetPiece}

-- conductor by layers with the nets of its rectangles, labels with their nets, and the names of all nets by number
pub record NetMap : Type 0 where
  pub pieces : List NetPiece
  pub labels : List NetLabel
  pub names : List (List ℕ)

-- the pieces are rectangles of the plane, and a cell of a layer lies in pieces of one net
pub record AreOfNets (pieces : List NetPiece) : Type 0 where
  pub blocks : All (λ (p : NetPiece). IsBlock p.block) pieces
  pub one : (p q : NetPiece) → Contains pieces p → Contains pieces q → p.layer ≡ q.layer → (x y : ℤ) →
      Holds p.block x y → Holds q.block x y → p.net ≡ q.net

abbrev pub at_cell : Layer → ℤ → ℤ → NetPiece → Bool
at_cell layer x y p = same_layer p.layer layer && holding p.block x y

abbrev pub net_in : List NetPiece → Layer → ℤ → ℤ → Option ℕ
net_in pieces layer x y = option_map (λ (p : NetPiece). p.net) (find (at_cell layer x y) pieces)

-- the net of the conductor of a layer in a cell
abbrev pub net_of : NetMap → Layer → ℤ → ℤ → Option ℕ
net_of m layer x y = net_in m.pieces layer x y

-- the rectangles have the cells of net n on the layer
abbrev pub AreCellsOf : NetMap → ℕ → Layer → List Rectangle → Type 0
AreCellsOf m n layer rs = (x y : ℤ) → Covers rs x y ↔ net_of m layer x y ≡ Some n

abbrev pub of_net : ℕ → Layer → NetPiece → Bool
of_net n layer p = same_layer p.layer layer && (p.net == n)

abbrev pub blocks_of : ℕ → Layer → List NetPiece → List Rectangle
blocks_of n layer pieces = map (λ (p : NetPiece). p.block) (filter (of_net n layer) pieces)

-- the net of the first label of a name
abbrev pub net_labelled : List NetLabel → List ℕ → Option ℕ
net_labelled held name = option_map (λ (h : NetLabel). h.net) (find (λ (h : NetLabel). bytes_eq h.name name) held)

-- the net that a label is in
abbrev pub net_named : NetMap → List ℕ → Option ℕ
net_named m name = net_labelled m.labels name

-- the labels ascend by their names, and those of one name are of one net
pub record AreByName (labels : List NetLabel) : Type 0 where
  pub sorted : IsSortedByKey (λ (h : NetLabel). h.name) (slice_cmp nat_cmp) labels
  pub one : (h k : NetLabel) → Contains labels h → Contains labels k → h.name ≡ k.name → h.net ≡ k.net

-- the nets of pieces and labels are numbers of names
pub record HaveNames (ps : List NetPiece) (held : List NetLabel) (names : List (List ℕ)) : Type 0 where
  pub pieces : All (λ (p : NetPiece). p.net < length names) ps
  pub labels : All (λ (h : NetLabel). h.net < length names) held

-- the cell is conductor of the layer, and in net n
pub record IsNetAt (deck : Deck) (s : List Shape) (firsts : List Site) (layer : Layer) (x y : ℤ) (n : ℕ) : Type 0 where
  pub site : Site
  pub conductor : IsConductorAt s layer (record { x = x; y = y }) site
  pub net : IsInNet deck s firsts n site

-- the nets of a drawing that has a netlist, and their names as the netlist has them
pub record Maps (deck : Deck) (shapes : Shapes) (map : NetMap) : Type 0 where
  pub regular : AreRegular deck shapes
  pub firsts : List Site
  pub held : List NetLabel
  pub has : IsLabelled deck shapes firsts held
  pub agreed : IsAgreed held (length firsts)
  pub names : map.names ≡ names_of held (length firsts)
  pub labels : (name : List ℕ) → net_named map name ≡ net_labelled held name
  pub nets : (layer : Layer) (x y : ℤ) (n : ℕ) →
      net_of map layer x y ≡ Some n ↔ IsNetAt deck shapes.rects firsts layer x y n

-- the connections of a drawing by layers
abbrev pub net_piece : Wire → NetPiece
net_piece w = record { layer = layer_of w.piece.kind; block = rect_of w.piece; net = w.net }

abbrev pub net_pieces : List Wire → List NetPiece
net_pieces wires = map net_piece wires
