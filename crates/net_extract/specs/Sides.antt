-- The sides of a gate as the code looks at them.
use Rattle.std.specs.Prelude.{◌≡◌, ℤ, ◌-ℤ◌, unsigned_abs, ℕ, min, max, ◌≤◌, ◌⊎◌, List}
use Rattle.box_geom.specs.Rectangle.{Rectangle, Holds}
use Rattle.box_geom.specs.declared.shape.Shape.{Shape}
use Rattle.cell_num.specs.declared.finger.Row.{Row}
use Rattle.scmos_rules.specs.declared.rules.Deck.{Deck}
use Rattle.net_extract.specs.Nets.{Site, site_at, Conducts}
use Rattle.net_extract.specs.Numbering.{IsInNet}
use Rattle.net_extract.specs.Devices.{InRow, diffusion_of, IsSide, IsClosed, IsSize}
use Rattle.net_extract.specs.Devices.{source_side, drain_side, low_end, high_end}
use Rattle.net_extract.specs.declared.side.Current.{Current}
use Rattle.net_extract.specs.declared.side.Current.TheVariants.{Rightward, Upward}
use Rattle.net_extract.specs.declared.netlist.Drawn.{Drawn}
use Rattle.net_extract.specs.declared.piece.Conductor.TheVariants.{Poly}
use Rattle.net_extract.specs.declared.piece.Piece.{Piece}

-- all cells of the area lie in the well, or all outside it
pub record IsInRow (s : List Shape) (row : Row) (area : Rectangle) : Type 0 where
  pub all : (x y : ℤ) → Holds area x y → InRow row s x y

-- all cells of the area are diffusion of the row
pub record IsDiffusion (s : List Shape) (row : Row) (area : Rectangle) : Type 0 where
  pub all : (x y : ℤ) → Holds area x y → Conducts s (site_at (diffusion_of row) x y)

-- the area is a side of diffusion whose net has the number
pub record IsSideNet (deck : Deck) (s : List Shape) (firsts : List Site) (row : Row) (area : Rectangle) (n : ℕ)
    : Type 0 where
  pub site : Site
  pub side : IsSide deck s (diffusion_of row) area site
  pub net : IsInNet deck s firsts n site

-- the device of a gate box for one direction of the current
pub record IsAlong (deck : Deck) (s : List Shape) (firsts : List Site) (box : Rectangle) (row : Row) (current : Current)
    (d : Drawn) : Type 0 where
  pub of_row : d.row ≡ row
  pub gate : IsInNet deck s firsts d.gate (site_at Poly box.x1 box.y1)
  pub one : ℕ
  pub other : ℕ
  pub source : IsSideNet deck s firsts row (source_side current box) one
  pub drain : IsSideNet deck s firsts row (drain_side current box) other
  pub ends : ((d.lo ≡ one) × (d.hi ≡ other)) ⊎ ((d.lo ≡ other) × (d.hi ≡ one))
  pub order : d.lo ≤ d.hi
  pub low : IsClosed s (low_end current box)
  pub high : IsClosed s (high_end current box)
  pub size : IsSize current box d.width d.length

-- no current flows so
pub record IsNotAlong (deck : Deck) (s : List Shape) (box : Rectangle) (row : Row) (current : Current) : Type 0 where
  pub never : (left right : Site) → IsSide deck s (diffusion_of row) (source_side current box) left →
      IsSide deck s (diffusion_of row) (drain_side current box) right → IsClosed s (low_end current box) →
      IsClosed s (high_end current box) → ⊥

pub record AreClosed (s : List Shape) (current : Current) (box : Rectangle) : Type 0 where
  pub low : IsClosed s (low_end current box)
  pub high : IsClosed s (high_end current box)

abbrev pub width_of : Current → Piece → ℕ
width_of Rightward p = unsigned_abs (p.top -ℤ p.low)
width_of Upward p = unsigned_abs (p.right -ℤ p.left)

abbrev pub length_of : Current → Piece → ℕ
length_of Rightward p = unsigned_abs (p.right -ℤ p.left)
length_of Upward p = unsigned_abs (p.top -ℤ p.low)

abbrev pub drawn_as : Row → ℕ → ℕ × ℕ → Piece → Current → Drawn
drawn_as row gate ends p current = record {
  row = row;
  gate = gate;
  lo = min ends.0 ends.1;
  hi = max ends.0 ends.1;
  width = width_of current p;
  length = length_of current p;
}

-- the nets along the two sides that the current flows through
pub record AreSideNets (deck : Deck) (s : List Shape) (firsts : List Site) (box : Rectangle) (row : Row)
    (current : Current) (ends : ℕ × ℕ) : Type 0 where
  pub source : IsSideNet deck s firsts row (source_side current box) ends.0
  pub drain : IsSideNet deck s firsts row (drain_side current box) ends.1
