-- What the lists of a certificate hold, by their words.
use Rattle.std.specs.Prelude.{ℕ, Bool, true, false, List, [], ◌∷◌, Option, Some, None, codes, option_map, if◌then◌else◌}
use Rattle.cell_num.specs.declared.net.NetNo.{NetNo}
use Rattle.log_lines.specs.Words.{is_word, number_below, parts_at}
use Rattle.bound_log.specs.Line.{◌>>=◌, provided}
use Rattle.trail_log.specs.declared.class.Class.{Class}
use Rattle.trail_log.specs.declared.class.NetPair.{NetPair}
use Rattle.trail_log.specs.Order.{classes_in_order, increases, node_rank}

-- all items, each of a word, where each word is one
abbrev pub each_in : {A : Type 0} → (List ℕ → Option A) → List (List ℕ) → Option (List A)
each_in read [] = Some []
each_in read (word ∷ words) = do
  item ← read word
  items ← each_in read words
  Some (item ∷ items)

-- the items between one byte and the next of its kind; `-` for none
abbrev pub list_in : {A : Type 0} → ℕ → (List ℕ → Option A) → List ℕ → Option (List A)
list_in byte read word = if is_word word (codes "-") then Some [] else each_in read (parts_at byte word)

abbrev pub net_in : ℕ → List ℕ → Option NetNo
net_in nets word = option_map (λ n. record { 0 = n }) (number_below nets word)

abbrev pub node_of : ℕ → List (List ℕ) → Option NetPair
node_of nets (p ∷ n ∷ []) = do
  p_net ← net_in nets p
  n_net ← net_in nets n
  Some (record { p = p_net; n = n_net })
node_of nets _ = None

abbrev pub node_in : ℕ → List ℕ → Option NetPair
node_in nets word = node_of nets (parts_at 46 word)

abbrev pub class_with : ℕ → Bool → List ℕ → Option Class
class_with nets flagged word = option_map (λ nodes. record { nodes = nodes; flagged = flagged })
    (each_in (node_in nets) (parts_at 43 word))

-- with `!` (byte 33) after it, or none
abbrev pub class_of : ℕ → List (List ℕ) → Option Class
class_of nets (nodes ∷ []) = class_with nets false nodes
class_of nets (nodes ∷ [] ∷ []) = class_with nets true nodes
class_of nets _ = None

abbrev pub class_in : ℕ → List ℕ → Option Class
class_in nets word = class_of nets (parts_at 33 word)

abbrev pub odd_in : ℕ → List ℕ → Option (List NetPair)
odd_in nets word = do
  nodes ← list_in 44 (node_in nets) word
  _ ← provided (increases node_rank nodes)
  Some nodes

abbrev pub classes_in : ℕ → List ℕ → Option (List Class)
classes_in nets word = do
  classes ← list_in 44 (class_in nets) word
  _ ← provided (classes_in_order classes)
  Some classes
