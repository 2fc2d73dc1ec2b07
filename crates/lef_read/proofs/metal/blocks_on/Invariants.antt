use Rattle.std.proofs.Common.{◌≡◌, take}
use Rattle.box_geom.specs.Layers.{rects_on}
use Rattle.lef_read.proofs.metal.blocks_on.Given as goal

abbrev pub invariant-loop-shape : goal.invariant-loop-shape
invariant-loop-shape l = l.blocks.items ≡ rects_on l.layer (take l.shape-index l.shapes)
