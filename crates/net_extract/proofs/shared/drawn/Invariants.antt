use Rattle.std.proofs.Common.{◌≡◌, take}
use Rattle.net_extract.specs.Cuts.{drawn_all}
use Rattle.net_extract.proofs.shared.drawn.Given as goal

abbrev pub invariant-loop-shape : goal.invariant-loop-shape
invariant-loop-shape l = l.out ≡ drawn_all l.kind l.layer (take l.shape-index l.shapes)
