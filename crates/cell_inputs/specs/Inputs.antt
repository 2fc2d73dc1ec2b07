-- What a cell is made of: the technology, the subcircuit and its fingers.
use Rattle.std.specs.Prelude.{ℕ, ◌≡◌, ◌+◌, ◌≤◌, ◌/◌, length, IsTrue}
use Rattle.cell_num.specs.Fingers.{AreFingers, AreSound}
use Rattle.cell_num.specs.Names.{is_cell}
use Rattle.cell_num.specs.Pins.{ArePins}
use Rattle.cell_num.specs.declared.finger.Fingers.{Fingers}
use Rattle.tech_file.specs.Technology.{Technology, IsTechnology}
use Rattle.spice_net.specs.declared.subckt.Subckt.{Subckt}
use Rattle.spice_net.specs.Subckts.{AreNames}

pub record Inputs : Type 0 where
  pub tech : Technology
  pub cell : Subckt
  pub fingers : Fingers

-- What holds of all inputs: the cell has a name as cells have, and a finger.
pub record AreInputs (inputs : Inputs) : Type 0 where
  pub tech : IsTechnology inputs.tech
  pub cell : IsTrue (is_cell inputs.cell.name)
  pub nets : AreNames inputs.cell.nets
  pub pins : ArePins (length inputs.cell.nets) inputs.cell.pins
  pub directions : length inputs.cell.directions ≡ inputs.cell.pins.pins
  pub fingers : AreFingers inputs.fingers
  pub some : 1 ≤ length inputs.fingers.p + length inputs.fingers.n
  pub sound : AreSound inputs.cell.nets inputs.cell.pins inputs.fingers

abbrev pub inputs_of : Technology → Subckt → Fingers → Inputs
inputs_of tech cell fingers = record { tech = tech; cell = cell; fingers = fingers }

-- the nanometres of a grid unit
abbrev pub unit_nm : Technology → ℕ
unit_nm tech = tech.lambda_nm / 2
