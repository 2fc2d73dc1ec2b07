-- Numbers that ties hold together, each having one or none.
use Rattle.std.specs.Prelude.{◌≡◌, ℕ, ◌==◌, Bool, true, false, Option, Some, None, List, get_or, ◌⊎◌}
use Rattle.number_trees.specs.Classes.{InTree}

abbrev pub is_one_tie : Option ℕ → Option ℕ → Bool
is_one_tie (Some a) (Some b) = a == b
is_one_tie _ _ = false

-- numbers i and j have one tie
pub record HaveOneTie (ties : List (Option ℕ)) (i j : ℕ) : Type 0 where
  pub is : is_one_tie (get_or ties i None) (get_or ties j None) ≡ true

-- the numbers stand in one tree, or have one tie
abbrev pub InTreeOrTied : List ℕ → List (Option ℕ) → ℕ → ℕ → Type 0
InTreeOrTied parents ties i j = InTree parents i j ⊎ HaveOneTie ties i j
