use Rattle.std.proofs.Common.{◌≡◌, ◌++◌, take}
use Rattle.lef_write.specs.Lef.{rects_text}
use Rattle.lef_write.proofs.shapes.put_rects.Given as goal

abbrev pub invariant-loop-shape : goal.invariant-loop-shape
invariant-loop-shape l = l.out ≡ l.fn.out ++ rects_text l.indent l.unit_nm (take l.shape-index l.shapes)
