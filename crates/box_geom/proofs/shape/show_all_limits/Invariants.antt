use Rattle.std.proofs.Common.{All, take}
use Rattle.box_geom.specs.Rectangle.{IsRectangle}
use Rattle.box_geom.proofs.shape.show_all_limits.Given as goal

abbrev pub invariant-loop-shape : goal.invariant-loop-shape
invariant-loop-shape l = All (λ s. IsRectangle s.rect) (take l.shape-index l.shapes)
