use Rattle.std.proofs.Common.{◌≡◌, take}
use Rattle.net_extract.specs.Cuts.{shared_all}
use Rattle.net_extract.proofs.shared.within.Given as goal

abbrev pub invariant-loop-shape : goal.invariant-loop-shape
invariant-loop-shape l = l.out ≡ shared_all l.layer l.pieces (take l.shape-index l.shapes)
