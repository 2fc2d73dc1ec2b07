-- What the words of a lemma's line say.
use Rattle.std.specs.Prelude.{ℕ, Bool, true, false, leb, List, [], ◌∷◌, Option, Some, None, codes, option_map}
use Rattle.std.specs.Prelude.{if◌then◌else◌}
use Rattle.cell_num.specs.declared.finger.Row.{Row}
use Rattle.cell_num.specs.declared.finger.Row.TheVariants.{P, N}
use Rattle.log_lines.specs.Words.{is_word, number_below, parts_at}
use Rattle.bound_log.specs.Line.{◌>>=◌, provided}
use Rattle.trail_log.specs.Listed.{each_in, list_in, net_in, node_in}
use Rattle.trail_log.specs.Order.{node_rank}
use Rattle.order_log.specs.Lists.{ordered_in}
use Rattle.pool_log.specs.declared.balance.PoolBalance.{PoolBalance}
use Rattle.pool_log.specs.declared.balance.Surplus.TheVariants as surplus
use Rattle.pool_log.specs.declared.class.PlaceClass.{PlaceClass}
use Rattle.pool_log.specs.declared.lemma.PoolLine.{PoolLine}
use Rattle.pool_log.specs.declared.place.ListedPlace.{ListedPlace}
use Rattle.pool_log.specs.declared.place.ListedPlace.TheVariants as place
use Rattle.pool_log.specs.Order.{balance_rank, classes_in_order}

-- the first, if there is one
abbrev pub either : {A : Type 0} → Option A → Option A → Option A
either None other = other
either (Some item) other = Some item

-- ends, or nodes: 1 to 64, as there are two ends for each of 32 columns
abbrev pub count_in : List ℕ → Option ℕ
count_in word = do
  count ← number_below 65 word
  _ ← provided (leb 1 count)
  Some count

-- a net and its free ends
abbrev pub free_of : ℕ → List (List ℕ) → Option PoolBalance
free_of nets (net ∷ ends ∷ []) = do
  pool ← net_in nets net
  count ← count_in ends
  Some (record { net = pool; surplus = surplus.Free count })
free_of nets _ = None

-- a net and its nodes that wait
abbrev pub waiting_of : ℕ → List (List ℕ) → Option PoolBalance
waiting_of nets (net ∷ nodes ∷ []) = do
  pool ← net_in nets net
  count ← count_in nodes
  Some (record { net = pool; surplus = surplus.Waiting count })
waiting_of nets _ = None

-- with `-` (byte 45) between, or `+` (byte 43)
abbrev pub balance_in : ℕ → List ℕ → Option PoolBalance
balance_in nets word = either (free_of nets (parts_at 45 word)) (waiting_of nets (parts_at 43 word))

abbrev pub pool_in : Row → ℕ → List ℕ → Option ListedPlace
pool_in row nets word = option_map (place.Pool row) (net_in nets word)

-- a net and a star, or a star and a net
abbrev pub pool_of : ℕ → List (List ℕ) → Option ListedPlace
pool_of nets (p ∷ n ∷ []) =
    if is_word n (codes "*") then pool_in P nets p else
    if is_word p (codes "*") then pool_in N nets n else None
pool_of nets _ = None

abbrev pub place_in : ℕ → List ℕ → Option ListedPlace
place_in nets word = either (option_map place.Node (node_in nets word)) (pool_of nets (parts_at 46 word))

abbrev pub class_with : ℕ → Bool → List ℕ → Option PlaceClass
class_with nets flagged word = option_map (λ places. record { places = places; flagged = flagged })
    (each_in (place_in nets) (parts_at 43 word))

-- with `!` (byte 33) after it, or none
abbrev pub class_of : ℕ → List (List ℕ) → Option PlaceClass
class_of nets (places ∷ []) = class_with nets false places
class_of nets (places ∷ [] ∷ []) = class_with nets true places
class_of nets _ = None

abbrev pub class_in : ℕ → List ℕ → Option PlaceClass
class_in nets word = class_of nets (parts_at 33 word)

abbrev pub classes_in : ℕ → List ℕ → Option (List PlaceClass)
classes_in nets word = do
  classes ← list_in 44 (class_in nets) word
  _ ← provided (classes_in_order classes)
  Some classes

-- after the word `lemma`
abbrev pub lemma_in : ℕ → List (List ℕ) → Option PoolLine
lemma_in nets (bound ∷ done ∷ odd ∷ free ∷ classes ∷ []) = do
  ends ← count_in bound
  gates ← number_below 32 done
  odd_nodes ← ordered_in (node_in nets) node_rank odd
  pools ← ordered_in (balance_in nets) balance_rank free
  joined ← classes_in nets classes
  Some (record { bound = ends; done = gates; odd = odd_nodes; balances = pools; classes = joined })
lemma_in nets _ = None
