-- How the lists of a certificate are written: numbers are decimal.
use Rattle.std.specs.Prelude.{ℕ, Bool, true, false, List, [], ◌∷◌, ◌++◌, map, codes, decimal}
use Rattle.std.specs.List.{join_with_byte}
use Rattle.cell_num.specs.declared.net.NetNo.{NetNo}
use Rattle.trail_log.specs.declared.class.Class.{Class}
use Rattle.trail_log.specs.declared.class.NetPair.{NetPair}

-- items with a byte between each two; `-` for none
abbrev pub list_text : ℕ → List (List ℕ) → List ℕ
list_text byte [] = codes "-"
list_text byte (word ∷ words) = join_with_byte byte (word ∷ words)

abbrev pub net_text : NetNo → List ℕ
net_text net = decimal net.0

-- the P net, a point (byte 46), the N net
abbrev pub node_text : NetPair → List ℕ
node_text node = decimal node.p.0 ++ (46 ∷ decimal node.n.0)

abbrev pub flag_text : Bool → List ℕ
flag_text true = codes "!"
flag_text false = []

-- nodes with `+` (byte 43) between, and `!` after those of a flagged class
abbrev pub class_text : Class → List ℕ
class_text class = join_with_byte 43 (map node_text class.nodes) ++ flag_text class.flagged

-- lists with commas (byte 44)
abbrev pub nets_text : List NetNo → List ℕ
nets_text nets = list_text 44 (map net_text nets)

abbrev pub nodes_text : List NetPair → List ℕ
nodes_text nodes = list_text 44 (map node_text nodes)

abbrev pub classes_text : List Class → List ℕ
classes_text classes = list_text 44 (map class_text classes)
