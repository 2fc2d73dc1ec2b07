use Rattle.std.proofs.Common.{◌≡◌, take}
use Rattle.net_extract.specs.NetMaps.{net_pieces}
use Rattle.net_extract.proofs.net_piece.net_pieces.Given as goal

abbrev pub invariant-loop-wire : goal.invariant-loop-wire
invariant-loop-wire l = l.pieces.items ≡ net_pieces (take l.wire-index l.wires)
