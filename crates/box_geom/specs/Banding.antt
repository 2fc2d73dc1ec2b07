-- Two sets of cells, put together band by band.
use Rattle.std.specs.Prelude.{ℤ, ◌↔◌, List, [], ◌∷◌, ◌++◌}
use Rattle.std.specs.List.{flat_map}
use Rattle.box_geom.specs.Rectangle.{Rectangle, Covers}
use Rattle.box_geom.specs.Ranges.{Hit, Spread}
use Rattle.box_geom.specs.Regions.{AreBanded}
use Rattle.box_geom.specs.Sweeping.{Meant}
use Rattle.box_geom.specs.declared.ranges.XRange.{XRange}
use Rattle.box_geom.specs.declared.sweep.Operation.{Operation}

-- the rectangle of a range in the band from low to before high
abbrev pub in_band : ℤ → ℤ → XRange → Rectangle
in_band low high r = record { x1 = r.x1; y1 = low; x2 = r.x2; y2 = high }

abbrev pub sides_up : Rectangle → List ℤ
sides_up r = r.y1 ∷ r.y2 ∷ []

abbrev pub all_sides_up : List Rectangle → List Rectangle → List ℤ
all_sides_up a b = flat_map sides_up a ++ flat_map sides_up b

-- the ranges hold, of the row y, what the operation makes of the two sets
pub record AreRowOf (op : Operation) (a b : List Rectangle) (y : ℤ) (rs : List XRange) : Type 0 where
  pub spread : Spread rs
  pub same : (x : ℤ) → Hit rs x ↔ Meant op (Covers a x y) (Covers b x y)

-- the bands cover what the operation makes of the two sets
pub record AreMadeOf (op : Operation) (a b made : List Rectangle) : Type 0 where
  pub banded : AreBanded made
  pub same : (x y : ℤ) → Covers made x y ↔ Meant op (Covers a x y) (Covers b x y)

-- the list covers what the operation makes of the two sets
abbrev pub IsMade : Operation → List Rectangle → List Rectangle → List Rectangle → Type 0
IsMade op a b made = (x y : ℤ) → Covers made x y ↔ Meant op (Covers a x y) (Covers b x y)
