use Rattle.std.proofs.Common.{◌≡◌, ◌++◌, take}
use Rattle.std.specs.List.{flat_map}
use Rattle.gds_record.specs.Records.{spelling}
use Rattle.gds_write.specs.Written.{label_records}
use Rattle.gds_write.proofs.write.put_labels.Given as goal

abbrev pub invariant-loop-label : goal.invariant-loop-label
invariant-loop-label l = l.out.items ≡ l.fn.out.items ++ flat_map (λ x. spelling (label_records l.unit x)) (take l.label-index l.labels)
