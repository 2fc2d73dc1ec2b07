use Rattle.std.proofs.Common.{◌≡◌, take}
use Rattle.box_geom.specs.Cutting.{sides}
use Rattle.box_geom.proofs.cuts.all_sides.Given as goal

abbrev pub invariant-loop-shape : goal.invariant-loop-shape
invariant-loop-shape l = l.values.items ≡ sides l.axis (take l.shape-index l.shapes)
