use Rattle.gds_record.specs.declared.types.RecordType.TheVariants.{Xy}
use Rattle.gds_write.specs.Written.{corners}
use Rattle.gds_write.proofs.Pieces.{record_joined, corners_length}
use Rattle.gds_write.proofs.element.put_boundary_points.Goals as goal

pub returns : goal.returns
returns c = record_joined Xy (corners c.args.unit c.args.shape.now.rect) c.args.out.now.items c.put_header.new.out.items c.put_corners.new.out.items 40 (corners_length c.args.unit c.args.shape.now.rect) c.in_ok-put_header.ensures c.in_ok-put_corners.ensures
