-- The rows of a stretch of columns in which cells are bare, and those in which none is open.
use Rattle.std.specs.Prelude.{◌≡◌, ◌↔◌, ◌⊎◌, ℤ, pos, fold, ◌≤ℤ◌, ◌<ℤ◌, int_le, int_lt, Bool, ◌&&◌, not, List}
use Rattle.std.specs.Int.{int_min, int_max}
use Rattle.std.specs.List.{Contains}
use Rattle.box_geom.specs.Rectangle.{Rectangle, Covers}
use Rattle.box_geom.specs.Regions.{Bare}
use Rattle.box_geom.specs.declared.ranges.XRange.{XRange}
use Rattle.box_geom.specs.declared.region.Place.{Place}
use Rattle.bare_cells.specs.declared.rows.Rows.{Rows}

-- Sets of rows stand as sets of cells of row 0: row y as the cell (y, 0).
abbrev pub HasRow : List Rectangle → ℤ → Type 0
HasRow rows y = Covers rows y (pos 0)

-- the rectangle has cells in all of the columns
abbrev pub is_wide : XRange → Rectangle → Bool
is_wide columns r = int_le r.x1 columns.x1 && int_le columns.x2 r.x2

abbrev pub does_meet : XRange → Rectangle → Bool
does_meet columns r = int_lt r.x1 columns.x2 && int_lt columns.x1 r.x2

-- the rectangle has cells in some of the columns, and not in all
abbrev pub is_part : XRange → Rectangle → Bool
is_part columns r = does_meet columns r && not (is_wide columns r)

-- some of the rectangles stands in the row
pub record StandsIn (rs : List Rectangle) (y : ℤ) : Type 0 where
  pub rect : Rectangle
  pub listed : Contains rs rect
  pub low : rect.y1 ≤ℤ y
  pub high : y <ℤ rect.y2

-- the rows in which some of the rectangles stands
pub record AreRowsOf (rs rows : List Rectangle) : Type 0 where
  pub are : (y : ℤ) → HasRow rows y ↔ StandsIn rs y
  pub flat : (x y : ℤ) → Covers rows x y → y ≡ pos 0

-- the rectangle as a set of rows
abbrev pub as_rows : Rectangle → Rectangle
as_rows r = record { x1 = r.y1; y1 = pos 0; x2 = r.y2; y2 = pos 1 }

-- no cell of the row in these columns is in the first list and not in the second
abbrev pub IsClosed : XRange → List Rectangle → List Rectangle → ℤ → Type 0
IsClosed columns first second y = (x : ℤ) → columns.x1 ≤ℤ x → x <ℤ columns.x2 → Bare first second x y → ⊥

-- all cells of the row in these columns are in the list
abbrev pub IsShut : XRange → List Rectangle → ℤ → Type 0
IsShut columns second y = (x : ℤ) → columns.x1 ≤ℤ x → x <ℤ columns.x2 → Covers second x y

pub record AreRows (columns : XRange) (first second : List Rectangle) (rows : Rows) : Type 0 where
  pub bare : (y : ℤ) → HasRow rows.bare y ↔ (IsClosed columns first second y → ⊥)
  pub shut : (y : ℤ) → HasRow rows.shut y ↔ IsShut columns second y
  pub flat : (x y : ℤ) → Covers rows.bare x y → y ≡ pos 0

-- two parts, neither empty, of the columns
pub record AreHalves (columns left right : XRange) : Type 0 where
  pub first : left.x1 ≡ columns.x1
  pub middle : right.x1 ≡ left.x2
  pub last : right.x2 ≡ columns.x2
  pub before : columns.x1 <ℤ left.x2
  pub behind : left.x2 <ℤ columns.x2

-- the rows where each rectangle of the second list is as wide as the stretch
pub record AreAlike (filled partly closed : List Rectangle) (rows : Rows) : Type 0 where
  pub bare : (x y : ℤ) → Covers rows.bare x y ↔ (Covers filled x y ⊎ Covers partly x y) × (Covers closed x y → ⊥)
  pub shut : rows.shut ≡ closed

-- the row is shut in both parts
abbrev pub IsShutInBoth : Rows → Rows → ℤ → Type 0
IsShutInBoth left right y = HasRow left.shut y × HasRow right.shut y

-- the row is bare in a part, or it is filled and in some part not shut
abbrev pub IsOpen : List Rectangle → Rows → Rows → ℤ → Type 0
IsOpen filled left right y =
    (HasRow left.bare y ⊎ HasRow right.bare y) ⊎ (HasRow filled y × (IsShutInBoth left right y → ⊥))

-- how the rows of two parts are put together, with the rows of rectangles that are as wide as both
pub record AreJoined (filled closed : List Rectangle) (left right rows : Rows) : Type 0 where
  pub bare : (y : ℤ) → HasRow rows.bare y ↔ IsOpen filled left right y × (HasRow closed y → ⊥)
  pub shut : (y : ℤ) → HasRow rows.shut y ↔ IsShutInBoth left right y ⊎ HasRow closed y
  pub flat : (x y : ℤ) → Covers rows.bare x y → Covers left.bare x y ⊎ (Covers right.bare x y ⊎ Covers filled x y)

-- the columns, and those of the rectangle besides
abbrev pub reaching : XRange → Rectangle → XRange
reaching columns r = record { x1 = int_min columns.x1 r.x1; x2 = int_max columns.x2 r.x2 }

-- columns that reach over all of the rectangles
abbrev pub reached : List Rectangle → XRange
reached rs = fold reaching (record { x1 = pos 0; x2 = pos 1 }) rs

-- the rectangles that stand in a row, as parts of row 0
abbrev pub stands_in : ℤ → Rectangle → Bool
stands_in y r = int_le r.y1 y && int_lt y r.y2

abbrev pub in_row : Rectangle → Rectangle
in_row r = record { x1 = r.x1; y1 = pos 0; x2 = r.x2; y2 = pos 1 }

-- the cells of a row that some rectangles cover, as cells of row 0
pub record IsRowOf (rs : List Rectangle) (y : ℤ) (row : List Rectangle) : Type 0 where
  pub cells : (x : ℤ) → Covers row x (pos 0) ↔ Covers rs x y
  pub flat : (s t : ℤ) → Covers row s t → t ≡ pos 0

-- the first bare cell of a row
pub record IsBareIn (first second : List Rectangle) (y : ℤ) (p : Place) : Type 0 where
  pub row : p.y ≡ y
  pub bare : Bare first second p.x y
  pub least : (x : ℤ) → Bare first second x y → p.x ≤ℤ x

abbrev pub IsClearIn : List Rectangle → List Rectangle → ℤ → Type 0
IsClearIn first second y = (x : ℤ) → Bare first second x y → ⊥
