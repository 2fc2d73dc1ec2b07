-- Names that are read one by one.
use Rattle.std.proofs.Common.{◌≡◌, ℕ, ◌+◌, ◌<◌, List, [], ◌∷◌, ◌++◌, length, get_or, drop, Option, Some, None, refl, ap, append_assoc}
use Rattle.toml.specs.declared.value.Value.{Value}
use Rattle.toml.specs.View.{view, items_view}
use Rattle.toml.proofs.Views.{items_view-drop}
use Rattle.tech_file.specs.Reading.{as_name, names_in, with_first}

-- names that were read in front of those that are still to be read
abbrev pub behind : List (List ℕ) → Option (List (List ℕ)) → Option (List (List ℕ))
behind front None = None
behind front (Some names) = Some (front ++ names)

behind_first : (front : List (List ℕ)) (name : List ℕ) (rest : Option (List (List ℕ))) → behind (front ++ name ∷ []) rest ≡ behind front (with_first (Some name) rest)
behind_first front name None = refl
behind_first front name (Some names) = ap (λ ns. Some ns) (append_assoc front (name ∷ []) names)

pub read_one_more : (front : List (List ℕ)) (name : List ℕ) (values : List Value) (i : ℕ) (d : Value) → i < length values → as_name (view (get_or values i d)) ≡ Some name
    → behind (front ++ name ∷ []) (names_in (items_view (drop (i + 1) values))) ≡ behind front (names_in (items_view (drop i values)))
read_one_more front name values i d inside is = rw (items_view-drop values i d inside, is) (behind_first front name (names_in (items_view (drop (i + 1) values))))

no_first : (front : List (List ℕ)) (rest : Option (List (List ℕ))) → behind front (with_first None rest) ≡ None
no_first front None = refl
no_first front (Some names) = refl

pub read_none : (front : List (List ℕ)) (values : List Value) (i : ℕ) (d : Value) → i < length values → as_name (view (get_or values i d)) ≡ None
    → behind front (names_in (items_view (drop i values))) ≡ None
read_none front values i d inside is = rw (items_view-drop values i d inside, is) (no_first front (names_in (items_view (drop (i + 1) values))))
