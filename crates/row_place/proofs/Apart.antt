-- Node lines are even, gate lines odd.
use Rattle.std.proofs.Common.{ℕ, ◌≡◌, ◌≢◌, ◌+◌, ◌*◌, ◌<◌, ◌≤◌, List, inl, inr, arith}
use Rattle.row_model.specs.declared.column.Column.{Column}
use Rattle.row_place.specs.declared.placement.NodePlace.{NodePlace}
use Rattle.row_place.specs.declared.placement.GatePlace.{GatePlace}
use Rattle.row_place.specs.Units.{unit_of}
use Rattle.row_place.specs.Places.{IsNode, IsGate}

pub even_node : (row : List Column) (node : NodePlace) → IsNode row node → (half : ℕ) × (node.line ≡ 2 * half)
even_node row node h =
    elim h.end [
      | inl (e, _) ↦ (unit_of row h.at, e)
      | inr (e, _) ↦ (unit_of row h.at + 1, (let next : node.line ≡ 2 * (unit_of row h.at + 1) = omega (arith, e) in next))
    ]

pub nodes_apart : (row : List Column) (a b : NodePlace) → IsNode row a → IsNode row b → a.line < b.line → a.line + 2 ≤ b.line
nodes_apart row a b ha hb less = omega (arith, less, (even_node row a ha).1, (even_node row b hb).1)

pub gates_apart : (row : List Column) (a b : GatePlace) → IsGate row a → IsGate row b → a.line < b.line → a.line + 2 ≤ b.line
gates_apart row a b ha hb less = omega (arith, less, ha.line, hb.line)

pub alternate : (row : List Column) (node : NodePlace) (gate : GatePlace) → IsNode row node → IsGate row gate → node.line ≢ gate.line
alternate row node gate hn hg e = omega (arith, e, (even_node row node hn).1, hg.line)
