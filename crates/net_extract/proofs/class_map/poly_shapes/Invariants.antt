use Rattle.std.proofs.Common.{◌≡◌, map, take}
use Rattle.net_extract.specs.Cuts.{poly_of}
use Rattle.net_extract.proofs.class_map.poly_shapes.Given as goal

abbrev pub invariant-loop-piece : goal.invariant-loop-piece
invariant-loop-piece l = l.shapes.items ≡ map poly_of (take l.piece-index l.pieces)
