-- Some items of a list, in their order.
use Rattle.std.specs.Prelude.{◌≡◌, ◌⊎◌, List, [], ◌∷◌}

-- each item of the whole list is left out, or is the next of those that stay
abbrev pub IsSublist : {X : Type 0} → List X → List X → Type 0
IsSublist some [] = some ≡ []
IsSublist {X} some (x ∷ whole) =
    IsSublist some whole ⊎ ((rest : List X) × (some ≡ x ∷ rest) × IsSublist rest whole)
