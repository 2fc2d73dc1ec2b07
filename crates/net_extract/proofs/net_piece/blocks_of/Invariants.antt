use Rattle.std.proofs.Common.{◌≡◌, take}
use Rattle.net_extract.specs.NetMaps.{blocks_of}
use Rattle.net_extract.proofs.net_piece.blocks_of.Given as goal

abbrev pub invariant-loop-piece : goal.invariant-loop-piece
invariant-loop-piece l = l.blocks.items ≡ blocks_of l.net l.layer (take l.piece-index l.pieces)
