use Rattle.std.proofs.Common.{ap}
use Rattle.std.proofs.lemmas.Result.{IfOk-weaker}
use Rattle.cell_draw.specs.declared.drawing.Drawing.{Drawing}
use Rattle.cell_draw.proofs.Draws.{base_obeys}
use Rattle.cell_draw.proofs.FramedDrawn.{base_framed}
use Rattle.cell_draw.proofs.cell.draw_base.Goals as goal

pub returns-clause-obeys : goal.returns-clause-obeys
returns-clause-obeys c = IfOk-weaker c.base_drawn.result _ _ (λ d is. base_obeys d.shapes.rects c.args.pins.now c.args.placement.now c.args.tracks c.args.height c.args.xs.now (ap (λ (d : Drawing). d.shapes.rects) is) c.requires.placement c.requires.lines c.requires.widths) c.base_drawn.ensures.exact

pub returns-clause-framed : goal.returns-clause-framed
returns-clause-framed c = IfOk-weaker c.base_drawn.result _ _ (λ d is. base_framed c.args.pins.now c.args.placement.now c.args.tracks c.args.xs.now c.args.height d is c.requires.placement c.requires.lines c.requires.widths) c.base_drawn.ensures.exact
