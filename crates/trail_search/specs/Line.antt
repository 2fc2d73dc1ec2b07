-- The line that lists a state.
use Rattle.std.specs.Prelude.{ℕ, ◌/◌, ◌%◌, ◌==◌, ◌<◌, Bool, List, All, AllPairs, map}
use Rattle.std.specs.List.{filter}
use Rattle.trail_state.specs.declared.edge.Node.{Node}
use Rattle.trail_state.specs.declared.state.Place.{Place}
use Rattle.trail_state.specs.declared.level.Level.{Level}
use Rattle.trail_log.specs.declared.class.Class.{Class}
use Rattle.trail_log.specs.declared.class.NetPair.{NetPair}
use Rattle.trail_log.specs.declared.trails.LemmaLine.{LemmaLine}

-- the nets of a place's node
abbrev pub pair_at : Place → NetPair
pair_at p = record { p = record { 0 = p.node.0 / 256 }; n = record { 0 = p.node.0 % 256 } }

abbrev pub is_of : ℕ → Place → Bool
is_of class p = p.class.0 == class

abbrev pub class_at : List Place → Place → Class
class_at s p = record { nodes = map pair_at (filter (is_of p.class.0) s); flagged = p.flagged }

-- the place names its class
abbrev pub is_name : Place → Bool
is_name p = p.node.0 == p.class.0

abbrev pub is_odd : Place → Bool
is_odd p = p.odd

abbrev pub line_of : ℕ → List Place → ℕ → LemmaLine
line_of done s bound = record {
  bound = bound;
  done = done;
  odd = map pair_at (filter is_odd s);
  classes = map (class_at s) (filter is_name s);
}

-- pairs of nets below `nets`, in ascending order
abbrev pub IsNode : ℕ → Node → Type 0
IsNode nets v = (v.0 / 256 < nets) × (v.0 % 256 < nets)

pub record AreNodes (nets : ℕ) (nodes : List Node) : Type 0 where
  pub ascend : AllPairs (λ (a b : Node). a.0 < b.0) nodes
  pub within : All (IsNode nets) nodes

abbrev pub AllNodes : ℕ → List Level → Type 0
AllNodes nets levels = All (λ (level : Level). AreNodes nets level.now) levels
