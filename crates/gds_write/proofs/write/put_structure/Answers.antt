use Rattle.std.proofs.Common.{◌≡◌, ◌++◌, subst}
use Rattle.std.specs.List.{flat_map}
use Rattle.gds_record.specs.Records.{spelling}
use Rattle.gds_write.specs.Written.{rectangle_records, label_records}
use Rattle.gds_write.proofs.Pieces.{structure_joined}
use Rattle.gds_write.proofs.write.put_structure.Goals as goal

pub returns : goal.returns
returns c =
    let rects : c.put_rectangles.new.out.items ≡ c.put_text.new.out.items ++ flat_map (λ s. spelling (rectangle_records c.args.unit s)) c.args.shapes.now.rects =
    subst (λ z. c.put_rectangles.new.out.items ≡ c.put_text.new.out.items ++ flat_map (λ s. spelling (rectangle_records c.args.unit s)) z) c.as_slice.ensures c.in_ok-put_rectangles.ensures in
    let labels : c.put_labels.new.out.items ≡ c.put_references.new.out.items ++ flat_map (λ l. spelling (label_records c.args.unit l)) c.args.shapes.now.labels =
    subst (λ z. c.put_labels.new.out.items ≡ c.put_references.new.out.items ++ flat_map (λ l. spelling (label_records c.args.unit l)) z) c.as_slice-2.ensures c.in_ok-put_labels.ensures in
    structure_joined c.args.unit (record { name = c.args.name.now; shapes = c.args.shapes.now; refs = c.args.refs.now }) c.args.out.now.items c.put.new.out.items c.put_text.new.out.items c.put_rectangles.new.out.items c.put_references.new.out.items c.put_labels.new.out.items c.put-2.new.out.items c.in_ok-put.ensures c.in_ok-put_text.ensures rects c.in_ok-put_references.ensures labels c.in_ok-put-2.ensures
