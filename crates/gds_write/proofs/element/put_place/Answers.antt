use Rattle.std.proofs.Common.{◌≡◌, ◌++◌, arith}
use Rattle.std.proofs.lemmas.Int.{to_z-of_z}
use Rattle.gds_record.specs.declared.types.RecordType.TheVariants.{Xy}
use Rattle.gds_write.specs.Written.{point}
use Rattle.gds_write.proofs.Pieces.{record_joined, point_length}
use Rattle.gds_write.proofs.element.put_place.Goals as goal

pub returns : goal.returns
returns c =
    let added : c.put_point.new.out.items ≡ c.put_header.new.out.items ++ point c.args.unit c.args.x c.args.y = grind (arith, to_z-of_z) in
    record_joined Xy (point c.args.unit c.args.x c.args.y) c.args.out.now.items c.put_header.new.out.items c.put_point.new.out.items 8 (point_length c.args.unit c.args.x c.args.y) c.in_ok-put_header.ensures added
