use Rattle.std.proofs.Common.{◌≡◌, ◌++◌, subst}
use Rattle.std.specs.List.{flat_map}
use Rattle.gds_record.specs.Records.{spelling}
use Rattle.gds_write.specs.Written.{structure_records}
use Rattle.gds_write.proofs.Pieces.{library_joined}
use Rattle.gds_write.proofs.write.write_library.Goals as goal

pub returns : goal.returns
returns c =
    let within : c.put_structures.new.out.items ≡ c.put_head.new.out.items ++ flat_map (λ s. spelling (structure_records c.args.unit_nm s)) c.args.structs.now =
    subst (λ z. c.put_structures.new.out.items ≡ c.put_head.new.out.items ++ flat_map (λ s. spelling (structure_records c.args.unit_nm s)) z) c.as_slice.ensures c.in_ok-put_structures.ensures in
    record { exact = library_joined c.args.structs.now c.args.unit_nm c.new-out.result.items c.put_head.new.out.items c.put_structures.new.out.items c.put_end.new.out.items c.new-out.ensures.items c.in_ok-put_head.ensures within c.in_ok-put_end.ensures }
