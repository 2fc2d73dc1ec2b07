-- The words that say how a cell is made, and what kind of evidence a call is about.
use Rattle.std.specs.Prelude.{ℕ, ◌-◌, Bool, List, [], ◌∷◌, length, take, get_or, Option, Some, None, codes, bytes_eq}
use Rattle.std.specs.Prelude.{if◌then◌else◌}
use Rattle.call_words.specs.declared.evidence.Evidence.{Evidence}
use Rattle.call_words.specs.declared.evidence.Evidence.TheVariants.{Log, Trails}
use Rattle.cell_inputs.specs.declared.style.LeastRow.{LeastRow}
use Rattle.cell_inputs.specs.declared.style.LeastRow.TheVariants.{First, Lowest}
use Rattle.cell_inputs.specs.declared.style.Style.{Style}
use Rattle.cell_inputs.specs.declared.style.Taps.{Taps}
use Rattle.cell_inputs.specs.declared.style.Taps.TheVariants.{Without, With}
use Rattle.cell_inputs.specs.declared.style.Wiring.{Wiring}
use Rattle.cell_inputs.specs.declared.style.Wiring.TheVariants.{Straight, Doglegs}

-- `--dogleg` asks for doglegs, where it comes first; and the words after it
abbrev pub wiring_of : List (List ℕ) → Wiring × List (List ℕ)
wiring_of [] = (Straight, [])
wiring_of (word ∷ more) = if bytes_eq word (codes "--dogleg") then (Doglegs, more) else (Straight, word ∷ more)

-- `--taps` asks for taps, where it comes first; and the words after it
abbrev pub taps_of : List (List ℕ) → Taps × List (List ℕ)
taps_of [] = (Without, [])
taps_of (word ∷ more) = if bytes_eq word (codes "--taps") then (With, more) else (Without, word ∷ more)

-- the style of the words after OUT
abbrev pub style_of : List (List ℕ) → Style
style_of words = record { wiring = (wiring_of words).0; taps = (taps_of (wiring_of words).1).0 }

-- the evidence of the last words: a log, or with `--trails` a certificate by trails
abbrev pub evidence_of : List (List ℕ) → Option Evidence
evidence_of [] = Some Log
evidence_of (word ∷ []) = if bytes_eq word (codes "--trails") then Some Trails else None
evidence_of _ = None

-- `--trails` asks for a certificate by trails, where it comes first; and the words after it
abbrev pub trails_of : List (List ℕ) → Evidence × List (List ℕ)
trails_of [] = (Log, [])
trails_of (word ∷ more) = if bytes_eq word (codes "--trails") then (Trails, more) else (Log, word ∷ more)

-- the last word is `--low`
abbrev pub ends_low : List (List ℕ) → Bool
ends_low words = bytes_eq (get_or words (length words - 1) []) (codes "--low")

-- then it asks for the lowest row of each cell; and the words before it
abbrev pub choice_of : List (List ℕ) → LeastRow × List (List ℕ)
choice_of words = if ends_low words then (Lowest, take (length words - 1) words) else (First, words)
