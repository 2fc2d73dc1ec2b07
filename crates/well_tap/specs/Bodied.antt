-- What taps do for the devices of a drawing: each has its row's rail for a body.
use Rattle.std.specs.Prelude.{◌≡◌, ℕ, List, [], get_or, Option, Some, None, pos, ◌-ℤ◌}
use Rattle.box_geom.specs.Rectangle.{Rectangle}
use Rattle.box_geom.specs.declared.shape.Shapes.{Shapes}
use Rattle.cell_num.specs.declared.finger.Row.{Row}
use Rattle.cell_num.specs.declared.finger.Row.TheVariants.{P, N}
use Rattle.cell_num.specs.declared.net.NetNo.{NetNo}
use Rattle.cell_num.specs.declared.net.Pins.{Pins}
use Rattle.scmos_rules.specs.declared.rules.Deck.TheVariants.{Plain, Taps}
use Rattle.net_extract.specs.Bodies.{IsTapFor}
use Rattle.net_extract.specs.Devices.{IsSomeDevice}
use Rattle.net_extract.specs.Labels.{IsNamed}
use Rattle.net_extract.specs.Nets.{Site, site_at}
use Rattle.net_extract.specs.declared.piece.Conductor.TheVariants.{Metal1}
use Rattle.net_extract.specs.declared.netlist.Drawn.{Drawn}
use Rattle.cell_draw.specs.declared.drawing.Drawing.{Drawing}
use Rattle.cell_draw.specs.Named.{name_of}

-- the device of the box has a tap, and all its taps are in the net of this name
pub record HasBody (name : List ℕ) (shapes : Shapes) (row : Row) (box : Rectangle) : Type 0 where
  pub tap : Site
  pub is : IsTapFor row shapes.rects box tap
  pub named : (a : Site) → IsTapFor row shapes.rects box a → IsNamed Taps shapes name a

abbrev pub rail_of : Pins → Row → NetNo
rail_of pins P = pins.vdd
rail_of pins N = pins.gnd

-- the body of each device is its row's rail
pub record AreBodied (names : List (List ℕ)) (pins : Pins) (shapes : Shapes) : Type 0 where
  pub each : (box : Rectangle) (d : IsSomeDevice Taps shapes.rects box)
      → HasBody (name_of names (rail_of pins d.row)) shapes d.row box

-- the metal at the lower and at the upper left corner of a drawing is of the rails' nets
pub record AreRails (names : List (List ℕ)) (pins : Pins) (d : Drawing) : Type 0 where
  pub gnd : IsNamed Plain d.shapes (name_of names pins.gnd) (site_at Metal1 (pos 0) (pos 0))
  pub vdd : IsNamed Plain d.shapes (name_of names pins.vdd) (site_at Metal1 (pos 0) (pos d.height -ℤ pos 1))

-- by the names of a netlist the body of the device is its row's rail
abbrev pub IsOnRail : List (List ℕ) → Pins → List (List ℕ) → Drawn → Option ℕ → Type 0
IsOnRail names pins nets d (Some n) = get_or nets n [] ≡ name_of names (rail_of pins d.row)
IsOnRail names pins nets d None = ⊥
