use Rattle.std.proofs.Common.{◌≡◌, List, take}
use Rattle.trail_state.specs.declared.edge.FingerEnds.{FingerEnds}
use Rattle.trail_state.specs.declared.gate.Gate.{Gate}
use Rattle.trail_state.specs.Fronts.{with_all, with_column}
use Rattle.trail_state.specs.Known.{AreKnown, AreNext, parts_of}
use Rattle.trail_state.proofs.columns.add_column.Given as goal

abbrev pub invariant-loop-number : goal.invariant-loop-number
invariant-loop-number l =
    (parts_of l.all.keys ≡ with_all (parts_of l.fn.all.keys) (with_column l.part l.fn.more.part.left (take l.number l.edges)))
    × ((gate : Gate) (xs : List FingerEnds) → AreNext gate xs (parts_of l.fn.all.keys) l.part l.fn.more.part.left l.fn.more.known.fingers l.again l.edges → AreKnown gate xs l.fn.all.keys → AreKnown gate xs l.all.keys)
    × (l.more.part.left ≡ l.fn.more.part.left) × (l.more.known.fingers ≡ l.fn.more.known.fingers)
