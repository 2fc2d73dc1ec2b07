use Rattle.std.proofs.Common.{◌≡◌, ◌∷◌, List, take}
use Rattle.std.specs.List.{flat_map}
use Rattle.trail_state.specs.declared.edge.FingerEnds.{FingerEnds}
use Rattle.trail_state.specs.declared.gate.Gate.{Gate}
use Rattle.trail_state.specs.Fronts.{paired_with, with_all}
use Rattle.trail_state.specs.Known.{AreKnown, parts_of}
use Rattle.trail_state.proofs.beside.add_paired.Given as goal

abbrev pub invariant-loop-at : goal.invariant-loop-at
invariant-loop-at l =
    (parts_of l.all.keys ≡ with_all (parts_of l.fn.all.keys) (flat_map (paired_with l.x l.part) (take l.at l.part.left)))
    × ((gate : Gate) (xs : List FingerEnds) → AreKnown gate (l.x ∷ xs) l.fn.all.keys → AreKnown gate (l.x ∷ xs) l.all.keys)
