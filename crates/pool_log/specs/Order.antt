-- The order in which a text lists balances, places and classes.
use Rattle.std.specs.Prelude.{ℕ, ◌+◌, ◌*◌, ◌^◌, Bool, ◌&&◌, List, [], ◌∷◌}
use Rattle.std.specs.List.{list_all}
use Rattle.cell_num.specs.declared.finger.Row.TheVariants.{P, N}
use Rattle.trail_log.specs.Order.{increases, node_rank}
use Rattle.pool_log.specs.declared.balance.PoolBalance.{PoolBalance}
use Rattle.pool_log.specs.declared.class.PlaceClass.{PlaceClass}
use Rattle.pool_log.specs.declared.place.ListedPlace.{ListedPlace}
use Rattle.pool_log.specs.declared.place.ListedPlace.TheVariants as place

abbrev pub balance_rank : PoolBalance → ℕ
balance_rank balance = balance.net.0

-- nodes before pools; the rank of a node is below 2 ^ 64
abbrev pub place_rank : ListedPlace → ℕ
place_rank (place.Node node) = node_rank node
place_rank (place.Pool P net) = 2 ^ 64 + net.0
place_rank (place.Pool N net) = 2 * 2 ^ 64 + net.0

-- the rank of the first place
abbrev pub first_rank : List ListedPlace → ℕ
first_rank [] = 0
first_rank (first ∷ places) = place_rank first

-- the rank of a class is that of its first place
abbrev pub class_rank : PlaceClass → ℕ
class_rank class = first_rank class.places

-- the places of each class, and the classes
abbrev pub classes_in_order : List PlaceClass → Bool
classes_in_order classes = list_all (λ (class : PlaceClass). increases place_rank class.places) classes
    && increases class_rank classes
