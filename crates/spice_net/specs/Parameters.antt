-- Parameters, the words `key=value`, and the one that counts.
use Rattle.std.specs.Prelude.{ℕ, ◌==◌, nat_eq, Bool, List, [], ◌∷◌, length, drop}
use Rattle.std.specs.Prelude.{filter_map, Option, Some, None, if◌then◌else◌}
use Rattle.std.specs.List.{starts_with, list_any}

abbrev pub is_parameter : List ℕ → Bool
is_parameter word = list_any (λ b. b == 61) word

-- the value of a word that begins with a key and its `=`
abbrev pub value_in : List ℕ → List ℕ → Option (List ℕ)
value_in key word = if starts_with nat_eq word key then Some (drop (length key) word) else None

abbrev pub last_of : {X : Type 0} → List X → Option X
last_of [] = None
last_of (x ∷ []) = Some x
last_of (x ∷ y ∷ more) = last_of (y ∷ more)

-- the value that counts for a key: that of its last word
abbrev pub value_of : List ℕ → List (List ℕ) → Option (List ℕ)
value_of key words = last_of (filter_map (value_in key) words)

-- the later of two values, where it is there: the reader's own word, as it comes from word to word
abbrev pub last_there : {X : Type 0} → Option X → Option X → Option X
last_there (Some value) before = Some value
last_there None before = before
