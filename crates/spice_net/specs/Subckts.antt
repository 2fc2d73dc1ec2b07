-- What holds of every subcircuit that is read.
use Rattle.std.specs.Prelude.{ℕ, ◌*◌, ◌≡◌, ◌≢◌, ◌<◌, ◌≤◌, ◌⊎◌, List, length, All, AllPairs, Any, IsTrue}
use Rattle.cell_num.specs.declared.net.NetNo.{NetNo}
use Rattle.cell_num.specs.declared.net.Pins.{Pins}
use Rattle.cell_num.specs.declared.finger.Row.{Row}
use Rattle.cell_num.specs.declared.finger.Row.TheVariants.{P, N}
use Rattle.cell_num.specs.Names.{is_name}
use Rattle.cell_num.specs.Pins.{IsRail}
use Rattle.spice_net.specs.declared.subckt.Device.{Device}
use Rattle.spice_net.specs.declared.subckt.Subckt.{Subckt}
use Rattle.spice_net.specs.Subcircuit.{most_nets}
use Rattle.spice_net.specs.Numbers.{least_units, most_units, most_counted}

-- the rail at no end of a row's transistors
abbrev pub far_rail : Pins → Row → NetNo
far_rail pins P = pins.gnd
far_rail pins N = pins.vdd

-- A transistor over so many nets, 6 to 100,000 units wide, which is cut into at least 1 to 64 fingers and
-- has 6 units for each of them. Its gate is no rail, no N transistor ends on vdd, and no P transistor ends
-- on gnd.
pub record IsDevice (nets : ℕ) (pins : Pins) (d : Device) : Type 0 where
  pub drain : d.drain.0 < nets
  pub gate : d.gate.0 < nets
  pub source : d.source.0 < nets
  pub least : least_units ≤ d.width
  pub most : d.width ≤ most_units
  pub some_fingers : 1 ≤ d.fingers
  pub few_fingers : d.fingers ≤ most_counted
  pub wide_enough : least_units * d.fingers ≤ d.width
  pub gate_no_rail : IsRail pins d.gate → ⊥
  pub drain_allowed : d.drain ≢ far_rail pins d.row
  pub source_allowed : d.source ≢ far_rail pins d.row

-- the transistor has the net at its drain, gate or source
abbrev pub Joins : NetNo → Device → Type 0
Joins net d = (d.gate ≡ net) ⊎ (d.drain ≡ net) ⊎ (d.source ≡ net)

-- At most 256 nets of different names, and each net other than the rails is met by a transistor. There may be
-- no transistor, where all nets are rails.
pub record IsSubckt (cell : Subckt) : Type 0 where
  pub few_nets : length cell.nets ≤ most_nets
  pub names_differ : AllPairs (λ a b. a ≢ b) cell.nets
  pub devices : All (IsDevice (length cell.nets) cell.pins) cell.devices
  pub met : (net : NetNo) → net.0 < length cell.nets → (IsRail cell.pins net → ⊥) → Any (Joins net) cell.devices

-- each word is spelled as names are: 1 to 64 printable bytes, none of which is a mark
abbrev pub AreNames : List (List ℕ) → Type 0
AreNames names = All (λ name. IsTrue (is_name name)) names
