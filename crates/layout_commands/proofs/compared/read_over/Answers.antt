use Rattle.call_read.specs.InputFiles.{shapes_from}
use Rattle.call_read.proofs.Desks.{only_refl, refused, taken}
use Rattle.layout_commands.specs.Agree.{comparing_with}
use Rattle.layout_commands.proofs.compared.read_over.Goals as goal

pub returns-in_err-shapes-clause-comes : goal.returns-in_err-shapes-clause-comes
returns-in_err-shapes-clause-comes g c =
    refused (g.D.Desk.view c.args.desk.now) (g.D.Desk.view c.read_shapes.new.desk) (g.D.Desk.view c.read_shapes.new.desk)
    (shapes_from c.args.gds.now c.args.name.now c.args.tech.now) (comparing_with c.args.lef.now c.args.name.now c.args.tech.now) c.read_shapes.result c.in_err-shapes.field-0.0 c.from_residual.result
    (only_refl (g.D.Desk.view c.read_shapes.new.desk))
    c.read_shapes.ensures.comes
    c.in_err-shapes.was
    c.from_residual.ensures

pub returns-clause-comes : goal.returns-clause-comes
returns-clause-comes g c =
    taken (g.D.Desk.view c.args.desk.now) (g.D.Desk.view c.read_shapes.new.desk) (g.D.Desk.view c.with_macro.new.desk)
    (shapes_from c.args.gds.now c.args.name.now c.args.tech.now) (comparing_with c.args.lef.now c.args.name.now c.args.tech.now) c.read_shapes.result c.in_ok-shapes.shapes c.with_macro.result
    c.read_shapes.ensures.only
    c.with_macro.ensures.only
    c.read_shapes.ensures.comes
    c.in_ok-shapes.was
    c.with_macro.ensures.comes
