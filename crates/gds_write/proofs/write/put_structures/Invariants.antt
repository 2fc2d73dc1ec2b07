use Rattle.std.proofs.Common.{◌≡◌, ◌++◌, take}
use Rattle.std.specs.List.{flat_map}
use Rattle.gds_record.specs.Records.{spelling}
use Rattle.gds_write.specs.Written.{structure_records}
use Rattle.gds_write.proofs.write.put_structures.Given as goal

abbrev pub invariant-loop-s : goal.invariant-loop-s
invariant-loop-s l = l.out.items ≡ l.fn.out.items ++ flat_map (λ x. spelling (structure_records l.unit x)) (take l.s-index l.structs)
