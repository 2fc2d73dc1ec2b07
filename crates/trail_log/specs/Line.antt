-- What one line of a certificate holds, by its words.
use Rattle.std.specs.Prelude.{ℕ, leb, List, [], ◌∷◌, Option, Some, None, codes, option_map, if◌then◌else◌}
use Rattle.cell_num.specs.declared.net.NetNo.{NetNo}
use Rattle.log_lines.specs.Words.{is_word, number_below}
use Rattle.bound_log.specs.Line.{◌>>=◌, ending_in, provided}
use Rattle.trail_log.specs.Listed.{classes_in, list_in, net_in, odd_in}
use Rattle.trail_log.specs.Order.{increases, net_rank}
use Rattle.trail_log.specs.declared.trails.LemmaLine.{LemmaLine}
use Rattle.trail_log.specs.declared.trails.TrailEntry.{TrailEntry}
use Rattle.trail_log.specs.declared.trails.TrailEntry.TheVariants as entry

-- after the word `lemma`; free ends are none
abbrev pub lemma_in : ℕ → List (List ℕ) → Option LemmaLine
lemma_in nets (bound ∷ done ∷ odd ∷ free ∷ classes ∷ []) = do
  ends ← number_below 65 bound
  _ ← provided (leb 1 ends)
  gates ← number_below 32 done
  odd_nodes ← odd_in nets odd
  _ ← provided (is_word free (codes "-"))
  joined ← classes_in nets classes
  Some (record { bound = ends; done = gates; odd = odd_nodes; classes = joined })
lemma_in nets _ = None

-- a line of the lemmas, or the one after them
abbrev pub entry_in : ℕ → List (List ℕ) → Option TrailEntry
entry_in nets [] = None
entry_in nets (word ∷ words) =
    if is_word word (codes "lemma") then option_map entry.Lemma (lemma_in nets words) else
    option_map entry.Ending (ending_in (word ∷ words))

-- a word, and a list of nets
abbrev pub nets_behind : List ℕ → ℕ → List (List ℕ) → Option (List NetNo)
nets_behind front nets (word ∷ list ∷ []) = if is_word word front then list_in 44 (net_in nets) list else None
nets_behind front nets _ = None

-- the line of the filled gates, in order
abbrev pub fill_in : ℕ → List (List ℕ) → Option (List NetNo)
fill_in nets words = do
  gates ← nets_behind (codes "fill") nets words
  _ ← provided (increases net_rank gates)
  Some gates

abbrev pub order_in : ℕ → List (List ℕ) → Option (List NetNo)
order_in nets words = nets_behind (codes "order") nets words
