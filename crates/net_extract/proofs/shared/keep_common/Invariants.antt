use Rattle.std.proofs.Common.{◌≡◌, ◌++◌, take}
use Rattle.std.specs.List.{flat_map}
use Rattle.net_extract.specs.Cuts.{shared_part}
use Rattle.net_extract.proofs.shared.keep_common.Given as goal

abbrev pub invariant-loop-piece : goal.invariant-loop-piece
invariant-loop-piece l = l.out ≡ l.fn.out ++ flat_map (shared_part l.rect) (take l.piece-index l.pieces)
