-- Devices: rectangles of gate cells between two sides of diffusion.
use Rattle.std.specs.Prelude.{◌≡◌, ℤ, pos, ◌+ℤ◌, ◌-ℤ◌, ◌≤ℤ◌, ◌↔◌, ℕ, List}
use Rattle.std.specs.List.{AllPairs, Contains}
use Rattle.box_geom.specs.Rectangle.{Rectangle, IsProper, Holds}
use Rattle.box_geom.specs.declared.shape.Shape.{Shape}
use Rattle.box_geom.specs.declared.layer.Layer.TheVariants.{Well, Active}
use Rattle.cell_num.specs.declared.finger.Row.{Row}
use Rattle.cell_num.specs.declared.finger.Row.TheVariants.{P, N}
use Rattle.scmos_rules.specs.Failing.{SameClass}
use Rattle.scmos_rules.specs.Layout.{On, Gate}
use Rattle.scmos_rules.specs.declared.rules.Deck.{Deck}
use Rattle.net_extract.specs.Nets.{Site, site_at, Conducts, SameNet}
use Rattle.net_extract.specs.declared.piece.Conductor.{Conductor}
use Rattle.net_extract.specs.declared.piece.Conductor.TheVariants.{PDiffusion, NDiffusion, Poly}
use Rattle.net_extract.specs.declared.side.Current.{Current}
use Rattle.net_extract.specs.declared.side.Current.TheVariants.{Rightward, Upward}

-- the cells of the box are gate cells, and are all that are chained to one of them by shared edges
pub record IsGateBox (s : List Shape) (box : Rectangle) : Type 0 where
  pub proper : IsProper box
  pub gate : (x y : ℤ) → Holds box x y → Gate s x y
  pub class : (x y u v : ℤ) → Holds box x y → SameClass (Gate s) x y u v ↔ Holds box u v

-- P in the well, N outside it
abbrev pub InRow : Row → List Shape → ℤ → ℤ → Type 0
InRow P s x y = On Well s x y
InRow N s x y = On Well s x y → ⊥

abbrev pub diffusion_of : Row → Conductor
diffusion_of P = PDiffusion
diffusion_of N = NDiffusion

-- the strips of cells along the four sides of a rectangle
abbrev pub left_of : Rectangle → Rectangle
left_of r = record { x1 = r.x1 -ℤ pos 1; y1 = r.y1; x2 = r.x1; y2 = r.y2 }

abbrev pub right_of : Rectangle → Rectangle
right_of r = record { x1 = r.x2; y1 = r.y1; x2 = r.x2 +ℤ pos 1; y2 = r.y2 }

abbrev pub below : Rectangle → Rectangle
below r = record { x1 = r.x1; y1 = r.y1 -ℤ pos 1; x2 = r.x2; y2 = r.y1 }

abbrev pub above : Rectangle → Rectangle
above r = record { x1 = r.x1; y1 = r.y2; x2 = r.x2; y2 = r.y2 +ℤ pos 1 }

-- every cell of the strip is of the kind and in the net of site a
pub record IsSide (deck : Deck) (s : List Shape) (k : Conductor) (strip : Rectangle) (a : Site) : Type 0 where
  pub conducts : Conducts s a
  pub side : (x y : ℤ) → Holds strip x y → Conducts s (site_at k x y) × SameNet deck s a (site_at k x y)

-- no cell of the strip is active
pub record IsClosed (s : List Shape) (strip : Rectangle) : Type 0 where
  pub closed : (x y : ℤ) → Holds strip x y → On Active s x y → ⊥

abbrev pub source_side : Current → Rectangle → Rectangle
source_side Rightward r = left_of r
source_side Upward r = below r

abbrev pub drain_side : Current → Rectangle → Rectangle
drain_side Rightward r = right_of r
drain_side Upward r = above r

abbrev pub low_end : Current → Rectangle → Rectangle
low_end Rightward r = below r
low_end Upward r = left_of r

abbrev pub high_end : Current → Rectangle → Rectangle
high_end Rightward r = above r
high_end Upward r = right_of r

-- how long the diffusion sides are, and how far they lie apart
pub record IsSize (current : Current) (r : Rectangle) (width length : ℕ) : Type 0 where
  pub across : current ≡ Rightward → (r.y2 ≡ r.y1 +ℤ pos width) × (r.x2 ≡ r.x1 +ℤ pos length)
  pub upright : current ≡ Upward → (r.x2 ≡ r.x1 +ℤ pos width) × (r.y2 ≡ r.y1 +ℤ pos length)

-- a device by cells: its gate and its sides are given by any site of their nets
pub record IsDevice (deck : Deck) (s : List Shape) (box : Rectangle) (row : Row) (gate left right : Site)
    (width length : ℕ) : Type 0 where
  pub current : Current
  pub class : IsGateBox s box
  pub of_row : (x y : ℤ) → Holds box x y → InRow row s x y
  pub gate_net : SameNet deck s gate (site_at Poly box.x1 box.y1)
  pub left_side : IsSide deck s (diffusion_of row) (source_side current box) left
  pub right_side : IsSide deck s (diffusion_of row) (drain_side current box) right
  pub low : IsClosed s (low_end current box)
  pub high : IsClosed s (high_end current box)
  pub size : IsSize current box width length

-- the box is a device, whatever its row, nets and size
pub record IsSomeDevice (deck : Deck) (s : List Shape) (box : Rectangle) : Type 0 where
  pub row : Row
  pub gate : Site
  pub left : Site
  pub right : Site
  pub width : ℕ
  pub length : ℕ
  pub is : IsDevice deck s box row gate left right width length

-- the cell (x, y) does not come after (u, v): by row from below, then from the left
pub record NotBehindCell (x y u v : ℤ) : Type 0 where
  pub row : y ≤ℤ v
  pub column : v ≤ℤ y → x ≤ℤ u

-- the first cell of a class of gate cells that is no device
pub record IsOdd (deck : Deck) (s : List Shape) (x y : ℤ) : Type 0 where
  pub gate : Gate s x y
  pub first : (u v : ℤ) → SameClass (Gate s) x y u v → NotBehindCell x y u v
  pub odd : (box : Rectangle) → Holds box x y → IsSomeDevice deck s box → ⊥

-- the first class of gate cells that is no device begins here
pub record IsFirstOdd (deck : Deck) (s : List Shape) (x y : ℤ) : Type 0 where
  pub odd : IsOdd deck s x y
  pub first : (u v : ℤ) → IsOdd deck s u v → NotBehindCell x y u v

-- one box begins before another
pub record BeginsBefore (a b : Rectangle) : Type 0 where
  pub not_behind : NotBehindCell a.x1 a.y1 b.x1 b.y1
  pub other : NotBehindCell b.x1 b.y1 a.x1 a.y1 → ⊥

-- all classes of gate cells, each a device, by their first cells
pub record AreDevices (deck : Deck) (s : List Shape) (boxes : List Rectangle) : Type 0 where
  pub ascending : AllPairs BeginsBefore boxes
  pub devices : (box : Rectangle) → Contains boxes box → IsSomeDevice deck s box
  pub all : (box : Rectangle) → IsSomeDevice deck s box → Contains boxes box
  pub none_odd : (x y : ℤ) → IsOdd deck s x y → ⊥
