-- The pins of a cell.
use Rattle.std.specs.Prelude.{ℕ, ◌≡◌, ◌≢◌, ◌<◌, ◌≤◌, ◌⊎◌, ◌==◌, ◌||◌, Bool}
use Rattle.cell_num.specs.declared.net.NetNo.{NetNo}
use Rattle.cell_num.specs.declared.net.Pins.{Pins}

-- the net is one of the two rails
abbrev pub IsRail : Pins → NetNo → Type 0
IsRail pins net = (net ≡ pins.vdd) ⊎ (net ≡ pins.gnd)

-- the same, as a test
abbrev pub is_rail : Pins → NetNo → Bool
is_rail pins net = (net.0 == pins.vdd.0) || (net.0 == pins.gnd.0)

-- the first of so many nets are pins, the two different rails among them
pub record ArePins (nets : ℕ) (pins : Pins) : Type 0 where
  pub named : pins.pins ≤ nets
  pub vdd : pins.vdd.0 < pins.pins
  pub gnd : pins.gnd.0 < pins.pins
  pub differ : pins.vdd ≢ pins.gnd
