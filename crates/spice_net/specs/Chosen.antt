-- The lines of a file that belong to the subcircuit of a name.
use Rattle.std.specs.Prelude.{ℕ, ◌&&◌, not, Bool, false, List, [], ◌∷◌, take, drop, filter}
use Rattle.std.specs.Prelude.{position, codes, bytes_eq, Result, Ok, Err, if◌then◌else◌}
use Rattle.std.specs.List.{list_any}
use Rattle.spice_text.specs.declared.logical.Line.{Line}
use Rattle.spice_text.specs.declared.logical.TextFault.{TextFault}
use Rattle.spice_text.specs.declared.logical.TextFault.TheVariants as text_fault
use Rattle.spice_text.specs.Logical.{split_of}
use Rattle.spice_net.specs.declared.fault.SpiceFault.{SpiceFault}
use Rattle.spice_net.specs.declared.fault.SpiceFault.TheVariants as fault
use Rattle.cell_num.specs.Steps.{or_fault, ◌>>=◌}

abbrev pub first_is : List ℕ → List (List ℕ) → Bool
first_is word [] = false
first_is word (first ∷ more) = bytes_eq first word

abbrev pub second_is : List ℕ → List (List ℕ) → Bool
second_is word (first ∷ second ∷ more) = bytes_eq second word
second_is word _ = false

-- the line that begins the subcircuit of this name
abbrev pub begins : List ℕ → Line → Bool
begins name line = first_is (codes ".subckt") line.words && second_is name line.words

-- a line at which a subcircuit ends
abbrev pub ends : Line → Bool
ends line = first_is (codes ".ends") line.words

abbrev pub has_name : List (List ℕ) → List ℕ → Bool
has_name names name = list_any (bytes_eq name) names

-- a `.global` line that names this net
abbrev pub makes_global : List ℕ → Line → Bool
makes_global net line = first_is (codes ".global") line.words && has_name (drop 1 line.words) net

-- any line of the file makes this net global
abbrev pub is_global : List Line → List ℕ → Bool
is_global lines net = list_any (makes_global net) lines

-- the lines from the first on that passes
abbrev pub from_first : (Line → Bool) → List Line → List Line
from_first test [] = []
from_first test (line ∷ lines) = if test line then line ∷ lines else from_first test lines

-- the line that begins a subcircuit, and the lines inside
pub record Chosen : Type 0 where
  pub head : Line
  pub inside : List Line

-- the lines of the subcircuit that begins with the first line, up to the next line that ends one
abbrev pub chosen_at : List Line → Result Chosen SpiceFault
chosen_at [] = Err fault.NoCell
chosen_at (head ∷ behind) =
    or_fault (position ends behind) fault.Unended >>= λ end. Ok (record { head = head; inside = take end behind })

abbrev pub chosen_in : List ℕ → List Line → Result Chosen SpiceFault
chosen_in name lines = chosen_at (from_first (begins name) lines)

-- the lines but for comments that tell directions of pins
abbrev pub without_comments : List Line → List Line
without_comments lines = filter (λ line. not line.info) lines

abbrev pub of_text : Result (List Line) TextFault → Result (List Line) SpiceFault
of_text (Ok lines) = Ok lines
of_text (Err (text_fault.NotAscii line)) = Err (fault.NotAscii line)
of_text (Err text_fault.NoMemory) = Err fault.NoMemory

-- the lines of a text, or the first line that holds a byte it may not
abbrev pub lines_in : List ℕ → Result (List Line) SpiceFault
lines_in bytes = of_text (split_of bytes)
