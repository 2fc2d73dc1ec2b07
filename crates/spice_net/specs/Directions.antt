-- The directions of pins: what comments tell of them, or else what their transistors show.
use Rattle.std.specs.Prelude.{ℕ, ◌&&◌, ◌||◌, not, Bool, List, map, bytes_eq, unwrap_or, if◌then◌else◌}
use Rattle.std.specs.List.{list_any}
use Rattle.spice_text.specs.declared.logical.Line.{Line}
use Rattle.tech_file.specs.Technology.{Technology}
use Rattle.spice_net.specs.declared.subckt.Direction.{Direction}
use Rattle.spice_net.specs.declared.subckt.Direction.TheVariants.{Input, Inout}
use Rattle.spice_net.specs.Pairs.{told_of}
use Rattle.spice_net.specs.Transistors.{Transistor, is_rail}

-- a net that is a gate, and no drain or source
abbrev pub meets_gates_alone : List Transistor → List ℕ → Bool
meets_gates_alone transistors net =
    list_any (λ t. bytes_eq net t.gate) transistors
    && not (list_any (λ t. bytes_eq net t.drain || bytes_eq net t.source) transistors)

-- the direction of a pin of which no pair tells
abbrev pub shown_of : Technology → List Transistor → List ℕ → Direction
shown_of tech transistors pin = if not (is_rail tech pin) && meets_gates_alone transistors pin then Input else Inout

abbrev pub direction_of : Technology → List Line → List Transistor → List ℕ → Direction
direction_of tech lines transistors pin = unwrap_or (told_of lines pin) (shown_of tech transistors pin)

-- The directions of the pins of a subcircuit, by the lines inside it and its transistors.
abbrev pub directions_of : Technology → List Line → List (List ℕ) → List Transistor → List Direction
directions_of tech lines pins transistors = map (direction_of tech lines transistors) pins
