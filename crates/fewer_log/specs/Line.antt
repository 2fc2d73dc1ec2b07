-- What the line says that lists the fingers left out, by its words.
use Rattle.std.specs.Prelude.{ℕ, List, [], ◌∷◌, Option, Some, None, codes, if◌then◌else◌}
use Rattle.cell_num.specs.declared.net.NetNo.{NetNo}
use Rattle.cell_num.specs.declared.finger.Row.{Row}
use Rattle.cell_num.specs.declared.finger.Row.TheVariants.{P, N}
use Rattle.log_lines.specs.Words.{is_word, parts_at}
use Rattle.bound_log.specs.Line.{◌>>=◌, provided}
use Rattle.trail_log.specs.Listed.{each_in, net_in}
use Rattle.trail_log.specs.Order.{increases, net_rank}
use Rattle.fewer_fingers.specs.declared.fewer.LeftOut.{LeftOut}

abbrev pub row_in : List ℕ → Option Row
row_in word = if is_word word (codes "P") then Some P else if is_word word (codes "N") then Some N else None

-- some gates with commas (byte 44) between, each before the next
abbrev pub gates_in : ℕ → List ℕ → Option (List NetNo)
gates_in nets word = do
  gates ← each_in (net_in nets) (parts_at 44 word)
  _ ← provided (increases net_rank gates)
  Some gates

-- the word `without`, a row and gates
abbrev pub out_in : ℕ → List (List ℕ) → Option LeftOut
out_in nets (front ∷ row ∷ list ∷ []) = do
  _ ← provided (is_word front (codes "without"))
  at ← row_in row
  gates ← gates_in nets list
  Some (record { row = at; gates = gates })
out_in nets _ = None
