use Rattle.std.proofs.Common.{ℕ, List, Ok, ap, inl, subst, ◌∙◌}
use Rattle.box_geom.specs.declared.shape.Shapes.{Shapes}
use Rattle.call_read.specs.InputFiles.{shapes_from}
use Rattle.call_read.specs.Reading.{Ends, MayCome}
use Rattle.call_read.proofs.Desks.{only_refl, refused, short, taken}
use Rattle.layout_commands.specs.Extract.{extracting_over, gds_cell}
use Rattle.layout_commands.proofs.gds_cell.read_cell_over.Goals as goal

pub returns-in_err-name-clause-comes : goal.returns-in_err-name-clause-comes
returns-in_err-name-clause-comes g c =
    short (g.D.Desk.view c.args.desk.now) (g.D.Desk.view c.args.desk.now) (extracting_over c.args.gds.now c.args.cell.now c.args.rules c.args.tech.now) c.from_residual.result c.from_residual.ensures

pub returns-in_err-shapes-clause-comes : goal.returns-in_err-shapes-clause-comes
returns-in_err-shapes-clause-comes g c =
    refused (g.D.Desk.view c.args.desk.now) (g.D.Desk.view c.read_shapes.new.desk) (g.D.Desk.view c.read_shapes.new.desk)
    (shapes_from c.args.gds.now c.args.cell.now c.args.tech.now) (λ (shapes : Shapes). Ends (Ok (gds_cell c.args.cell.now c.args.rules shapes))) c.read_shapes.result c.in_err-shapes.field-0.0 c.from_residual-in_err-shapes.result
    (only_refl (g.D.Desk.view c.read_shapes.new.desk))
    (subst (λ (n : List ℕ). MayCome (g.D.Desk.view c.args.desk.now) (g.D.Desk.view c.read_shapes.new.desk) (shapes_from c.args.gds.now n c.args.tech.now) c.read_shapes.result) (c.in_ok-name.ensures ∙ c.as_bytes.ensures.value) c.read_shapes.ensures.comes)
    c.in_err-shapes.was
    c.from_residual-in_err-shapes.ensures

pub returns-clause-comes : goal.returns-clause-comes
returns-clause-comes g c =
    taken (g.D.Desk.view c.args.desk.now) (g.D.Desk.view c.read_shapes.new.desk) (g.D.Desk.view c.read_shapes.new.desk)
    (shapes_from c.args.gds.now c.args.cell.now c.args.tech.now) (λ (shapes : Shapes). Ends (Ok (gds_cell c.args.cell.now c.args.rules shapes))) c.read_shapes.result c.in_ok-shapes.shapes (Ok _)
    c.read_shapes.ensures.only
    (only_refl (g.D.Desk.view c.read_shapes.new.desk))
    (subst (λ (n : List ℕ). MayCome (g.D.Desk.view c.args.desk.now) (g.D.Desk.view c.read_shapes.new.desk) (shapes_from c.args.gds.now n c.args.tech.now) c.read_shapes.result) (c.in_ok-name.ensures ∙ c.as_bytes.ensures.value) c.read_shapes.ensures.comes)
    c.in_ok-shapes.was
    (inl (ap (λ (n : List ℕ). Ok (gds_cell n c.args.rules c.in_ok-shapes.shapes)) (c.in_ok-name.ensures ∙ c.as_bytes.ensures.value)))
