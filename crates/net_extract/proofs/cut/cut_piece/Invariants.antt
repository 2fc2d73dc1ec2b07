use Rattle.std.proofs.Common.{◌≡◌, take}
use Rattle.net_extract.specs.Cuts.{left_of_piece}
use Rattle.net_extract.proofs.cut.cut_piece.Given as goal

abbrev pub invariant-loop-shape : goal.invariant-loop-shape
invariant-loop-shape l = l.parts ≡ left_of_piece (take l.shape-index l.shapes) l.piece
