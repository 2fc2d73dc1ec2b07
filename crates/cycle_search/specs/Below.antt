-- What a table of nets below others says.
use Rattle.std.specs.Prelude.{ℕ, ◌≡◌, ◌+◌, ◌*◌, ◌<◌, true, false, get_or, List, All}
use Rattle.row_cycles.specs.Above.{Follows, HasNets}
use Rattle.row_cycles.specs.declared.above.NetAbove.{NetAbove}
use Rattle.cycle_search.specs.declared.asked.Asked.{Asked}
use Rattle.cycle_search.specs.declared.below.Below.{Below}

abbrev pub place_of : ℕ → NetAbove → ℕ
place_of nets a = a.upper.0 * nets + a.lower.0

abbrev pub HasPair : Below → NetAbove → Type 0
HasPair below a = (a.lower.0 < below.nets) × (get_or below.marks.items (place_of below.nets a) false ≡ true)

-- each pair of the table follows
abbrev pub IsSound : List NetAbove → Below → Type 0
IsSound pairs below = (a : NetAbove) → HasPair below a → Follows pairs a

-- pairs on nets of the cell, and a sound table of them
pub record IsAsked (nets : ℕ) (asked : Asked) : Type 0 where
  pub few : All (HasNets nets) asked.pairs
  pub sound : IsSound asked.pairs asked.below
