-- Areas of cells, and how far they are covered.
use Rattle.std.specs.Prelude.{ℤ, ◌≤ℤ◌, ◌<ℤ◌, Bool, ◌&&◌, Option, List}
use Rattle.std.specs.Option.{option_map}
use Rattle.std.specs.List.{find, list_any}
use Rattle.box_geom.specs.Comparisons.{holding, overlapping}
use Rattle.box_geom.specs.Layers.{same_layer}
use Rattle.box_geom.specs.Rectangle.{Rectangle, Holds}
use Rattle.box_geom.specs.declared.shape.Shape.{Shape}
use Rattle.box_geom.specs.declared.layer.Layer.{Layer}
use Rattle.scmos_rules.specs.Layout.{On}
use Rattle.net_extract.specs.declared.area.Area.{Area}

-- the area as a rectangle
abbrev pub cells_in : Area → Rectangle
cells_in a = record { x1 = a.x1; y1 = a.y1; x2 = a.x2; y2 = a.y2 }

-- the first rectangle of the layer that holds the cell
abbrev pub holder : List Shape → Layer → ℤ → ℤ → Option Rectangle
holder shapes layer x y =
    option_map (λ (s : Shape). s.rect) (find (λ (s : Shape). same_layer s.layer layer && holding s.rect x y) shapes)

abbrev pub meeting_across : Rectangle → Rectangle → Bool
meeting_across a b = overlapping a.x1 a.x2 b.x1 b.x2

abbrev pub meeting_upward : Rectangle → Rectangle → Bool
meeting_upward a b = overlapping a.y1 a.y2 b.y1 b.y2

abbrev pub meeting : Rectangle → Rectangle → Bool
meeting a b = meeting_across a b && meeting_upward a b

abbrev pub meeting_any : List Shape → Layer → Rectangle → Bool
meeting_any shapes layer area = list_any (λ (s : Shape). same_layer s.layer layer && meeting area s.rect) shapes

-- all cells, or none, are covered
pub record IsFull (s : List Shape) (layer : Layer) (area : Rectangle) : Type 0 where
  pub full : (x y : ℤ) → Holds area x y → On layer s x y

pub record IsFree (s : List Shape) (layer : Layer) (area : Rectangle) : Type 0 where
  pub free : (x y : ℤ) → Holds area x y → On layer s x y → ⊥

-- the rows from y to before top are covered
pub record AreRows (s : List Shape) (layer : Layer) (area : Rectangle) (y top : ℤ) : Type 0 where
  pub some : y <ℤ top
  pub most : top ≤ℤ area.y2
  pub rows : (x t : ℤ) → area.x1 ≤ℤ x → x <ℤ area.x2 → y ≤ℤ t → t <ℤ top → On layer s x t
