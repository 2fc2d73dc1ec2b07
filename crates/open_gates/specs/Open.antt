-- Gates that are left open: nothing fills the empty places of their columns. All of them have more fingers in one row,
-- so each of their columns has a finger of it.
use Rattle.std.specs.Prelude.{ℕ, ◌<◌, ◌==◌, ◌&&◌, Bool, not, if◌then◌else◌, ltb, List, [], ◌∷◌, All}
use Rattle.std.specs.List.{filter, list_all, list_any}
use Rattle.cell_num.specs.declared.net.NetNo.{NetNo}
use Rattle.cell_num.specs.declared.finger.Row.{Row}
use Rattle.cell_num.specs.declared.finger.Row.TheVariants.{P, N}
use Rattle.cell_num.specs.declared.finger.Finger.{Finger}
use Rattle.cell_num.specs.declared.finger.Fingers.{Fingers}
use Rattle.cell_num.specs.Fingers.{on_gate}
use Rattle.trail_state.specs.Nodes.{has_net}
use Rattle.open_gates.specs.declared.gates.OpenGates.{OpenGates}

abbrev pub fingers_at : Row → Fingers → List Finger
fingers_at P f = f.p
fingers_at N f = f.n

abbrev pub fingers_beside : Row → Fingers → List Finger
fingers_beside P f = f.n
fingers_beside N f = f.p

-- the row has more fingers on the gate than the other row
abbrev pub HasMore : Row → Fingers → NetNo → Type 0
HasMore row f gate = on_gate gate.0 (fingers_beside row f) < on_gate gate.0 (fingers_at row f)

abbrev pub has_more : Row → Fingers → NetNo → Bool
has_more row f gate = ltb (on_gate gate.0 (fingers_beside row f)) (on_gate gate.0 (fingers_at row f))

abbrev pub AreOpenGates : Fingers → OpenGates → Type 0
AreOpenGates f opened = All (HasMore opened.row f) opened.gates

abbrev pub have_more : Fingers → OpenGates → Bool
have_more f opened = list_all (has_more opened.row f) opened.gates

abbrev pub is_left_open : OpenGates → ℕ → Bool
is_left_open opened gate = list_any (λ (g : NetNo). g.0 == gate) opened.gates

-- A net at an end of a finger of the row on a gate that is left open. All nodes with this net in the row are merged.
abbrev pub is_merged_net : Fingers → OpenGates → ℕ → Bool
is_merged_net f opened net =
    list_any (λ (x : Finger). is_left_open opened x.gate.0 && has_net net x) (fingers_at opened.row f)

-- The gate has more fingers in one row than in the other: it has half columns.
abbrev pub is_uneven : Fingers → ℕ → Bool
is_uneven f gate = not (on_gate gate f.p == on_gate gate f.n)

-- the gate has half columns, and is none of those that are filled
abbrev pub is_unfilled : Fingers → List NetNo → NetNo → Bool
is_unfilled f fill gate = is_uneven f gate.0 && not (list_any (λ (g : NetNo). g.0 == gate.0) fill)

abbrev pub longer_row : Fingers → NetNo → Row
longer_row f gate = if has_more P f gate then P else N

-- the row in which the first of the gates has more fingers; P, where there is none
abbrev pub row_of : Fingers → List NetNo → Row
row_of f [] = P
row_of f (gate ∷ gates) = longer_row f gate

abbrev pub of_gates : Fingers → List NetNo → OpenGates
of_gates f gates = record { row = row_of f gates; gates = gates }

-- the gates of an order that are left open where these are filled
abbrev pub open_in : Fingers → List NetNo → List NetNo → OpenGates
open_in f fill order = of_gates f (filter (is_unfilled f fill) order)

-- the other gates of the order, by what is filled
abbrev pub closed_in : Fingers → List NetNo → List NetNo → List NetNo
closed_in f fill order = filter (λ gate. not (is_unfilled f fill gate)) order

-- the gates of the order that are not left open
abbrev pub closed_by : OpenGates → List NetNo → List NetNo
closed_by opened order = filter (λ gate. not (is_left_open opened gate.0)) order
