-- The choices of gates that are listed already.
use Rattle.std.specs.Prelude.{ℕ, ◌≡◌, ◌==◌, ◌&&◌, Bool, true, false, List, Option, Some, None, All}
use Rattle.std.specs.Cmp.Lexicographic.{pointwise}
use Rattle.trail_state.specs.declared.edge.Edge.{Edge}
use Rattle.trail_state.specs.declared.gate.Gate.{Gate}
use Rattle.trail_state.specs.Fronts.{choices_of, has_long_front, same_nets}
use Rattle.trail_search.specs.declared.lists.ChoiceLists.{ChoiceLists}
use Rattle.trail_search.specs.declared.lists.ListedGate.{ListedGate}

-- all choices of the gate; none where it has too many ways
abbrev pub AreChoicesOf : Gate → Option (List (List Edge)) → Type 0
AreChoicesOf gate None = has_long_front 65536 gate ≡ true
AreChoicesOf gate (Some choices) = (choices ≡ choices_of gate) × (has_long_front 65536 gate ≡ false)

abbrev pub IsRight : ListedGate → Type 0
IsRight listed = AreChoicesOf listed.gate listed.choices

abbrev pub AreRight : ChoiceLists → Type 0
AreRight lists = All IsRight lists.gates

abbrev pub same_fill : List ℕ → List ℕ → Bool
same_fill a b = pointwise (λ (m n : ℕ). m == n) a b

abbrev pub same_gate : Gate → Gate → Bool
same_gate a b = pointwise same_nets a.p b.p && pointwise same_nets a.n b.n
    && same_fill a.p_fill b.p_fill && same_fill a.n_fill b.n_fill
