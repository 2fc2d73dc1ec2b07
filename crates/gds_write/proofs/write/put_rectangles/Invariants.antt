use Rattle.std.proofs.Common.{◌≡◌, ◌++◌, take}
use Rattle.std.specs.List.{flat_map}
use Rattle.gds_record.specs.Records.{spelling}
use Rattle.gds_write.specs.Written.{rectangle_records}
use Rattle.gds_write.proofs.write.put_rectangles.Given as goal

abbrev pub invariant-loop-shape : goal.invariant-loop-shape
invariant-loop-shape l = l.out.items ≡ l.fn.out.items ++ flat_map (λ s. spelling (rectangle_records l.unit s)) (take l.shape-index l.shapes)
