use Rattle.std.proofs.Common.{◌≡◌, take}
use Rattle.net_extract.specs.Cuts.{shapes_on}
use Rattle.net_extract.proofs.layers.on_layer.Given as goal

abbrev pub invariant-loop-shape : goal.invariant-loop-shape
invariant-loop-shape l = l.out ≡ shapes_on l.layer (take l.shape-index l.shapes)
