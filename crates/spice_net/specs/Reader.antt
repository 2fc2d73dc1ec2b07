-- The reader's own words: how far its steps have come.
use Rattle.std.specs.Borrow.{Bor}
use Rattle.std.specs.List.{list_any}
use Rattle.std.specs.Prelude.{[], ◌∷◌, map, fold, bytes_eq, List, ◌++◌, if◌then◌else◌, ℕ, Result, Ok}
use Rattle.spice_net.specs.declared.fault.SpiceFault.{SpiceFault}
use Rattle.spice_net.specs.Transistors.{Fields, Transistor, with_line}
use Rattle.spice_net.specs.declared.transistor.Judged.{Judged}
use Rattle.spice_text.specs.declared.logical.Line.{Line}
use Rattle.tech_file.specs.Technology.{Technology}
use Rattle.cell_num.specs.Steps.{◌>>=◌}

-- the transistor of some fields, by what their judge found
abbrev pub transistor_as : Judged → Fields → Transistor
transistor_as judged f =
    record {
      copies = judged.copies;
      row = judged.row;
      drain = f.drain;
      gate = f.gate;
      source = f.source;
      width = judged.width;
      fingers = judged.fingers;
    }

-- a line in front of others, unless it is a comment
abbrev pub with_shown : Technology → Line → Result (List Transistor) SpiceFault → Result (List Transistor) SpiceFault
with_shown tech l rest = if l.info then rest else with_line tech l rest

-- transistors, and behind them those of lines that are still to be read
abbrev pub in_front : List Transistor → Result (List Transistor) SpiceFault → Result (List Transistor) SpiceFault
in_front done rest = rest >>= λ more. Ok (done ++ more)

-- the names that a set of slices holds
abbrev pub names_of : List (Bor (List ℕ)) → List (List ℕ)
names_of keys = map (λ key. key.now) keys

-- names with one more, unless it stands there
abbrev pub with_name : List (List ℕ) → List ℕ → List (List ℕ)
with_name names word = if list_any (bytes_eq word) names then names else names ++ word ∷ []

-- names with more, one after the other
abbrev pub with_names : List (List ℕ) → List (List ℕ) → List (List ℕ)
with_names names words = fold with_name names words
