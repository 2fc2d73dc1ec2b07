-- The order in which a text lists nets, nodes and classes.
use Rattle.std.specs.Prelude.{ℕ, ◌+◌, ◌*◌, Bool, ◌&&◌, nat_lt, List, [], ◌∷◌, drop}
use Rattle.std.specs.List.{list_all, zip}
use Rattle.cell_num.specs.declared.net.NetNo.{NetNo}
use Rattle.trail_log.specs.declared.class.Class.{Class}
use Rattle.trail_log.specs.declared.class.NetPair.{NetPair}

-- each before the next
abbrev pub increases : {A : Type 0} → (A → ℕ) → List A → Bool
increases rank items = list_all (λ pair. nat_lt (rank pair.0) (rank pair.1)) (zip items (drop 1 items))

abbrev pub net_rank : NetNo → ℕ
net_rank net = net.0

-- by the P net, then by the N net
abbrev pub node_rank : NetPair → ℕ
node_rank node = 4294967296 * node.p.0 + node.n.0

-- the rank of the first node
abbrev pub first_rank : List NetPair → ℕ
first_rank [] = 0
first_rank (node ∷ nodes) = node_rank node

-- the rank of a class is that of its first node
abbrev pub class_rank : Class → ℕ
class_rank class = first_rank class.nodes

-- the nodes of each class, and the classes
abbrev pub classes_in_order : List Class → Bool
classes_in_order classes = list_all (λ (class : Class). increases node_rank class.nodes) classes
    && increases class_rank classes
