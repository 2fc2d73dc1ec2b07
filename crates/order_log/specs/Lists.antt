-- Lists of items in ascending order, by their words.
use Rattle.std.specs.Prelude.{ℕ, List, Option, Some}
use Rattle.bound_log.specs.Line.{◌>>=◌, provided}
use Rattle.trail_log.specs.Listed.{list_in}
use Rattle.trail_log.specs.Order.{increases}

-- items with commas (byte 44) between, each before the next; `-` for none
unfoldable pub ordered_in : {A : Type 0} → (List ℕ → Option A) → (A → ℕ) → List ℕ → Option (List A)
ordered_in read rank word = do
  items ← list_in 44 read word
  _ ← provided (increases rank items)
  Some items
