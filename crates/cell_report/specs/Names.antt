-- Nets by their names.
use Rattle.std.specs.Prelude.{ℕ, List, [], slice_get, unwrap_or}

-- the name of the net with that number
abbrev pub name_of : List (List ℕ) → ℕ → List ℕ
name_of nets net = unwrap_or (slice_get nets net) []
