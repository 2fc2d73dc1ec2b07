-- The lemma that a line of a certificate lists.
use Rattle.std.specs.Prelude.{ℕ, ◌+◌, ◌*◌, ◌==◌, Bool, List, [], Option, Some, None, map, find, option_map, unwrap_or}
use Rattle.std.specs.Prelude.{slice_get}
use Rattle.std.specs.List.{filter_map, list_any}
use Rattle.trail_state.specs.declared.edge.Node.{Node}
use Rattle.trail_state.specs.declared.state.Place.{Place}
use Rattle.trail_state.specs.declared.level.Level.{Level}
use Rattle.trail_log.specs.declared.class.Class.{Class}
use Rattle.trail_log.specs.declared.class.NetPair.{NetPair}
use Rattle.trail_log.specs.declared.trails.LemmaLine.{LemmaLine}
use Rattle.trail_check.specs.declared.lemma.TrailLemma.{TrailLemma}

-- the node of a pair of nets
abbrev pub number_of : NetPair → ℕ
number_of pair = 256 * pair.p.0 + pair.n.0

abbrev pub is_listed : List NetPair → Node → Bool
is_listed pairs node = list_any (λ (pair : NetPair). number_of pair == node.0) pairs

-- the first of the nodes that the class lists
abbrev pub name_of : List Node → List NetPair → Node → Node
name_of nodes pairs node = unwrap_or (find (is_listed pairs) nodes) node

-- a node of the class, which is named by the first of these nodes in it
abbrev pub place_in : List Node → List NetPair → Node → Class → Place
place_in nodes odd node class = record {
  node = node;
  class = name_of nodes class.nodes node;
  odd = is_listed odd node;
  flagged = class.flagged;
}

-- the node's place, if a class lists it
abbrev pub place_listed : List Node → LemmaLine → Node → Option Place
place_listed nodes line node = option_map (place_in nodes line.odd node)
    (find (λ (class : Class). is_listed class.nodes node) line.classes)

-- the places of these nodes, in their order
abbrev pub state_listed : List Node → LemmaLine → List Place
state_listed nodes line = filter_map (place_listed nodes line) nodes

abbrev pub nodes_of : Option Level → List Node
nodes_of None = []
nodes_of (Some level) = level.now

-- its state has the nodes that the gates left can meet
abbrev pub lemma_listed : List Level → LemmaLine → TrailLemma
lemma_listed levels line = record {
  bound = line.bound;
  done = line.done;
  state = state_listed (nodes_of (slice_get levels line.done)) line;
}

abbrev pub lemmas_listed : List Level → List LemmaLine → List TrailLemma
lemmas_listed levels lines = map (lemma_listed levels) lines
