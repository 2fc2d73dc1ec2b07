-- The comparisons by which the code decides.
use Rattle.std.specs.Prelude.{ℕ, ℤ, ◌-ℤ◌, int_lt, int_le, unsigned_abs, Bool, true}
use Rattle.std.specs.Prelude.{false, ◌&&◌, ◌||◌, if◌then◌else◌, Option, Some, None, List}
use Rattle.std.specs.List.{list_any}
use Rattle.box_geom.specs.Rectangle.{Rectangle}
use Rattle.box_geom.specs.Layers.{same_layer}
use Rattle.box_geom.specs.declared.shape.Shape.{Shape}
use Rattle.box_geom.specs.declared.layer.Layer.{Layer}

-- low <= at < high
unfoldable pub within : ℤ → ℤ → ℤ → Bool
within low high at = int_le low at && int_lt at high

-- two spans have a place in common
unfoldable pub overlapping : ℤ → ℤ → ℤ → ℤ → Bool
overlapping a b c d = int_lt a d && int_lt c b

-- two spans have a place or an end in common
unfoldable pub reaching : ℤ → ℤ → ℤ → ℤ → Bool
reaching a b c d = int_le a d && int_le c b

abbrev pub holding : Rectangle → ℤ → ℤ → Bool
holding r x y = within r.x1 r.x2 x && within r.y1 r.y2 y

abbrev pub covering : List Shape → Layer → ℤ → ℤ → Bool
covering shapes layer x y = list_any (λ s. same_layer s.layer layer && holding s.rect x y) shapes

abbrev pub beside : Rectangle → Rectangle → Bool
beside a b = reaching a.x1 a.x2 b.x1 b.x2 && overlapping a.y1 a.y2 b.y1 b.y2

abbrev pub stacked : Rectangle → Rectangle → Bool
stacked a b = overlapping a.x1 a.x2 b.x1 b.x2 && reaching a.y1 a.y2 b.y1 b.y2

abbrev pub touching : Rectangle → Rectangle → Bool
touching a b = beside a b || stacked a b

-- how far two spans that have no place in common lie apart
unfoldable pub gap_of : ℤ → ℤ → ℤ → ℤ → ℕ
gap_of a b c d = if int_le b c then unsigned_abs (c -ℤ b) else unsigned_abs (a -ℤ d)

-- the distance of two rectangles with a row, or with a column, in common
abbrev pub gap_by : Bool → Bool → Rectangle → Rectangle → Option ℕ
gap_by true false a b = Some (gap_of a.x1 a.x2 b.x1 b.x2)
gap_by false true a b = Some (gap_of a.y1 a.y2 b.y1 b.y2)
gap_by _ _ a b = None

abbrev pub gap_between : Rectangle → Rectangle → Option ℕ
gap_between a b = gap_by (overlapping a.y1 a.y2 b.y1 b.y2) (overlapping a.x1 a.x2 b.x1 b.x2) a b
