use Rattle.std.proofs.Common.{◌≡◌, take}
use Rattle.net_extract.specs.Cuts.{left_of_pieces}
use Rattle.net_extract.proofs.cut.cut_pieces.Given as goal

abbrev pub invariant-loop-piece : goal.invariant-loop-piece
invariant-loop-piece l = l.out ≡ left_of_pieces l.shapes (take l.piece-index l.pieces)
