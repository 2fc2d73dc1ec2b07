-- The bodies of devices: the net of the taps of a device's well, or of the substrate.
use Rattle.std.specs.Prelude.{◌≡◌, ℕ, Option, Some, None, List}
use Rattle.std.specs.List.{AllZip, zip}
use Rattle.box_geom.specs.Rectangle.{Rectangle}
use Rattle.box_geom.specs.Touching.{Cell}
use Rattle.box_geom.specs.declared.shape.Shape.{Shape}
use Rattle.box_geom.specs.declared.shape.Shapes.{Shapes}
use Rattle.box_geom.specs.declared.layer.Layer.{Layer}
use Rattle.box_geom.specs.declared.layer.Layer.TheVariants.{Well, PSelect, NSelect}
use Rattle.cell_num.specs.declared.finger.Row.{Row}
use Rattle.cell_num.specs.declared.finger.Row.TheVariants.{P, N}
use Rattle.scmos_rules.specs.Failing.{SameClass}
use Rattle.scmos_rules.specs.Layout.{On}
use Rattle.scmos_rules.specs.declared.rules.Deck.TheVariants.{Taps}
use Rattle.net_extract.specs.Devices.{diffusion_of}
use Rattle.net_extract.specs.Extraction.{Extracts}
use Rattle.net_extract.specs.Nets.{Site, Conducts}
use Rattle.net_extract.specs.Numbering.{IsInNet}
use Rattle.net_extract.specs.declared.netlist.BodyNetlist.{BodyNetlist}
use Rattle.net_extract.specs.declared.netlist.Drawn.{Drawn}

-- the select that makes diffusion of a row a tap: that of the other row
abbrev pub tap_select : Row → Layer
tap_select P = NSelect
tap_select N = PSelect

-- the cell lies in the class of well cells of a P device's box; the substrate is one
abbrev pub IsBelow : Row → List Shape → Rectangle → Cell → Type 0
IsBelow P s box c = SameClass (On Well s) box.x1 box.y1 c.x c.y
IsBelow N s box c = Unit {0}

-- the site is a conductor cell of a tap of the well, or of the substrate, that a device is in
pub record IsTapFor (row : Row) (s : List Shape) (box : Rectangle) (a : Site) : Type 0 where
  pub kind : a.kind ≡ diffusion_of row
  pub conducts : Conducts s a
  pub select : On (tap_select row) s a.cell.x a.cell.y
  pub below : IsBelow row s box a.cell

-- net n has a tap for the device
pub record HasTapIn (s : List Shape) (firsts : List Site) (row : Row) (box : Rectangle) (n : ℕ) : Type 0 where
  pub tap : Site
  pub is : IsTapFor row s box tap
  pub net : IsInNet Taps s firsts n tap

-- the net of the taps for a device, None where it has none
abbrev pub IsBody : List Shape → List Site → Row → Rectangle → Option ℕ → Type 0
IsBody s firsts row box (Some n) = HasTapIn s firsts row box n
IsBody s firsts row box None = (a : Site) → IsTapFor row s box a → ⊥

abbrev pub IsBodyOf : List Shape → List Site → Rectangle × Drawn → Option ℕ → Type 0
IsBodyOf s firsts device body = IsBody s firsts device.1.row device.0 body

-- the bodies of devices, each by its box
abbrev pub AreBodies : List Shape → List Site → List Rectangle → List Drawn → List (Option ℕ) → Type 0
AreBodies s firsts boxes devices bodies = AllZip (IsBodyOf s firsts) (zip boxes devices) bodies

-- the netlist of a drawing with taps, and the body of each device
pub record ExtractsBodies (shapes : Shapes) (b : BodyNetlist) : Type 0 where
  pub of : Extracts Taps shapes b.netlist
  pub bodies : AreBodies shapes.rects of.firsts of.boxes b.netlist.devices b.bodies
