-- The files that a call creates.
use Rattle.std.specs.Prelude.{ℕ, ◌≡◌, ◌≢◌, List, [], ◌∷◌, ◌++◌, All}

-- no name is listed twice
abbrev pub AreDistinct : List (List ℕ) → Type 0
AreDistinct [] = Unit {0}
AreDistinct (name ∷ names) = All (λ other. other ≢ name) names × AreDistinct names

-- some names were created, each of them once
abbrev pub CreatesOnce : List (List ℕ) → List (List ℕ) → Type 0
CreatesOnce old new = (names : List (List ℕ)) × AreDistinct names × (new ≡ old ++ names)
