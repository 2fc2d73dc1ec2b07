-- The subcircuit of a name in a file, or the first fault.
use Rattle.std.specs.Prelude.{ℕ, ◌==◌, ◌&&◌, not, nat_le, Bool, List, [], ◌∷◌, ◌++◌, length}
use Rattle.std.specs.Prelude.{drop, find, Option, Some, None, Result, Ok, Err, if◌then◌else◌}
use Rattle.std.specs.List.{list_all}
use Rattle.cell_num.specs.Names.{is_name}
use Rattle.spice_text.specs.declared.logical.Line.{Line}
use Rattle.tech_file.specs.Technology.{Technology}
use Rattle.spice_net.specs.declared.fault.What.{What}
use Rattle.spice_net.specs.declared.fault.What.TheVariants as what
use Rattle.spice_net.specs.declared.fault.SpiceFault.{SpiceFault}
use Rattle.spice_net.specs.declared.fault.SpiceFault.TheVariants as fault
use Rattle.spice_net.specs.declared.subckt.Subckt.{Subckt}
use Rattle.spice_net.specs.Transistors.{Transistor}
use Rattle.spice_net.specs.Chosen.{has_name, is_global, chosen_in, without_comments, lines_in}
use Rattle.spice_net.specs.Transistors.{is_rail, transistors_of}
use Rattle.spice_net.specs.Directions.{directions_of}
use Rattle.spice_net.specs.Nets.{distinct, named_nets, nets_of, net_of, with_copies, devices_of}
use Rattle.cell_num.specs.Steps.{require, ◌>>=◌}

-- the pins that the first line of a subcircuit lists: names, none of them twice
abbrev pub pins_of : Line → Result (List (List ℕ)) SpiceFault
pins_of line =
    require
    (list_all is_name (drop 2 line.words) && length (distinct (drop 2 line.words)) == length (drop 2 line.words))
    (fault.Fields line.number)
    >>= λ _. Ok (drop 2 line.words)

-- a rail that is no pin stands behind the pins where a line of the file makes it global
abbrev pub with_rail : List Line → List ℕ → List (List ℕ) → List (List ℕ)
with_rail lines rail pins = if not (has_name pins rail) && is_global lines rail then pins ++ rail ∷ [] else pins

abbrev pub with_rails : Technology → List Line → List (List ℕ) → List (List ℕ)
with_rails tech lines pins = with_rail lines tech.gnd (with_rail lines tech.vdd pins)

-- ---- what holds of the whole subcircuit, in the order in which faults count

-- a pin other than the rails that is none of the named nets
abbrev pub is_idle : Technology → List (List ℕ) → List ℕ → Bool
is_idle tech named pin = not (is_rail tech pin) && not (has_name named pin)

-- the first pin, other than the rails, that is no transistor's drain, gate or source
abbrev pub idle_pin : Technology → List (List ℕ) → List Transistor → Option (List ℕ)
idle_pin tech pins transistors = find (is_idle tech (named_nets transistors)) pins

abbrev pub none_idle : Option (List ℕ) → Result (Unit {0}) SpiceFault
none_idle (Some pin) = Err (fault.IdlePin pin)
none_idle None = Ok tt

abbrev pub most_pins : ℕ
most_pins = 64

abbrev pub most_devices : ℕ
most_devices = 128

abbrev pub most_nets : ℕ
most_nets = 256

abbrev pub at_most : ℕ → What → ℕ → Result (Unit {0}) SpiceFault
at_most most what count = require (nat_le count most) (fault.TooMany what count)

abbrev pub few_enough : List (List ℕ) → List Transistor → Result (Unit {0}) SpiceFault
few_enough pins transistors = do
  _ ← at_most most_pins what.Pins (length pins)
  _ ← at_most most_devices what.Devices (length (with_copies transistors))
  at_most most_nets what.Nets (length (nets_of pins transistors))

abbrev pub subckt_with : List ℕ → Technology → List Line → List (List ℕ) → List Transistor → Subckt
subckt_with name tech lines pins transistors =
    record {
      name = name;
      pins = record {
        pins = length pins;
        vdd = net_of (nets_of pins transistors) tech.vdd;
        gnd = net_of (nets_of pins transistors) tech.gnd;
      };
      nets = nets_of pins transistors;
      devices = devices_of (nets_of pins transistors) transistors;
      directions = directions_of tech lines pins transistors;
    }

-- the subcircuit of pins and transistors that are not too many
abbrev pub numbered : List ℕ → Technology → List Line → List (List ℕ) → List Transistor → Result Subckt SpiceFault
numbered name tech lines pins transistors =
    few_enough pins transistors >>= λ _. Ok (subckt_with name tech lines pins transistors)

-- the lines are those inside the subcircuit, which tell directions of pins
abbrev pub subckt_of : List ℕ → Technology → List Line → List (List ℕ) → List Transistor → Result Subckt SpiceFault
subckt_of name tech lines pins transistors = do
  _ ← require (has_name pins tech.vdd && has_name pins tech.gnd) fault.NoRail
  _ ← none_idle (idle_pin tech pins transistors)
  _ ← require (not (length transistors == 0)) fault.Empty
  numbered name tech lines pins transistors

abbrev pub subckt_in : List ℕ → Technology → List Line → Result Subckt SpiceFault
subckt_in name tech lines = do
  chosen ← chosen_in name lines
  pins ← pins_of chosen.head
  transistors ← transistors_of tech (without_comments chosen.inside)
  subckt_of name tech chosen.inside (with_rails tech lines pins) transistors

-- The subcircuit of this name that the bytes of a file hold, or the first fault.
abbrev pub subcircuit : List ℕ → List ℕ → Technology → Result Subckt SpiceFault
subcircuit bytes name tech = lines_in bytes >>= subckt_in name tech
