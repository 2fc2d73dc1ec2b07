use Rattle.std.proofs.Common.{◌≡◌, take}
use Rattle.net_extract.specs.Ties.{ties_of}
use Rattle.net_extract.proofs.tie.ties_of.Given as goal

abbrev pub invariant-loop-piece : goal.invariant-loop-piece
invariant-loop-piece l = l.ties.items ≡ ties_of l.shapes l.wells (take l.piece-index l.pieces)
