-- What inner contracts cite.
use Rattle.std.specs.Prelude.{ℕ, ◌≤◌, ◌==◌, ◌&&◌, ◌++◌, Bool, not, if◌then◌else◌, List, [], ◌∷◌, length, map}
use Rattle.std.specs.List.{filter, list_any, range_with_len}
use Rattle.cell_num.specs.declared.net.NetNo.{NetNo}
use Rattle.cell_num.specs.declared.finger.Fingers.{Fingers}
use Rattle.trail_state.specs.declared.edge.Edge.{Edge}
use Rattle.trail_state.specs.declared.level.Level.{Level}
use Rattle.trail_state.specs.Pairings.{has_long_front}
use Rattle.open_gates.specs.declared.choices.Way.{Way}
use Rattle.open_gates.specs.declared.gates.OpenGates.{OpenGates}
use Rattle.open_gates.specs.Equal.{same_way}
use Rattle.open_gates.specs.Leveled.{nodes_in}
use Rattle.open_gates.specs.Open.{is_left_open, is_merged_net}

abbrev pub is_listed : List ℕ → ℕ → Bool
is_listed nets net = list_any (λ m. m == net) nets

-- the merged nets in ascending order
abbrev pub nets_merged : Fingers → OpenGates → List ℕ
nets_merged f opened = filter (is_merged_net f opened) (range_with_len 0 f.nets)

-- each way once
abbrev pub with_way : List Way → Way → List Way
with_way ways w = if list_any (same_way w) ways then ways else ways ++ w ∷ []

abbrev pub edges_of : List Way → List (List Edge)
edges_of ways = map (λ (w : Way). w.edges) ways

abbrev pub HasFewNodes : Level → Type 0
HasFewNodes level = length level.now ≤ 65536

-- a gate that is not left open has more ways to pair the fingers of its first columns
abbrev pub is_long_in : ℕ → Fingers → OpenGates → NetNo → Bool
is_long_in most f opened gate = not (is_left_open opened gate.0) && has_long_front most f gate.0

-- the level of the first gate of an order, which has these choices
abbrev pub level_with : Fingers → OpenGates → List NetNo → List NetNo → List (List Edge) → Level
level_with f opened order later choices = record {
  now = nodes_in f opened order;
  next = nodes_in f opened later;
  choices = choices;
}
