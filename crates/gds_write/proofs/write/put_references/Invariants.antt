use Rattle.std.proofs.Common.{◌≡◌, ◌++◌, take}
use Rattle.std.specs.List.{flat_map}
use Rattle.gds_record.specs.Records.{spelling}
use Rattle.gds_write.specs.Written.{reference_records}
use Rattle.gds_write.proofs.write.put_references.Given as goal

abbrev pub invariant-loop-reference : goal.invariant-loop-reference
invariant-loop-reference l = l.out.items ≡ l.fn.out.items ++ flat_map (λ x. spelling (reference_records l.unit x)) (take l.reference-index l.refs)
