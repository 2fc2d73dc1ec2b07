use Rattle.std.proofs.Common.{ap}
use Rattle.std.proofs.lemmas.Result.{IfOk-weaker}
use Rattle.cell_draw.specs.declared.drawing.Drawing.{Drawing}
use Rattle.channel_route.specs.Wiring.{wiring_of}
use Rattle.cell_draw.proofs.BridgeCount.{few_drawn}
use Rattle.cell_draw.proofs.DrawnNets.{drawn_extracts, drawn_shows}
use Rattle.cell_draw.proofs.Draws.{drawing_obeys, drawing_named}
use Rattle.cell_draw.proofs.FramedDrawn.{drawn_framed, drawn_begins}
use Rattle.cell_draw.proofs.wiring.draw_wiring.Goals as goal

pub returns-clause-obeys : goal.returns-clause-obeys
returns-clause-obeys c = IfOk-weaker c.drawn.result _ _ (λ d is. drawing_obeys d.shapes.rects c.args.names.now c.args.pins.now c.args.placement.now (wiring_of c.args.tracks c.args.trunks.now) c.args.xs.now c.args.height (ap (λ (d : Drawing). d.shapes.rects) is) c.requires.placement c.requires.row c.requires.wiring c.requires.lines) c.drawn.ensures.exact

pub returns-clause-few : goal.returns-clause-few
returns-clause-few c = IfOk-weaker c.drawn.result _ _ (λ d is. few_drawn d.shapes.rects c.args.names.now c.args.pins.now c.args.placement.now (wiring_of c.args.tracks c.args.trunks.now) c.args.xs.now c.args.height (ap (λ (d : Drawing). d.shapes.rects) is) c.requires.placement c.requires.wiring) c.drawn.ensures.exact

pub returns-clause-named : goal.returns-clause-named
returns-clause-named c = IfOk-weaker c.drawn.result _ _ (λ d is. drawing_named d.shapes.labels c.args.names.now c.args.pins.now c.args.placement.now (wiring_of c.args.tracks c.args.trunks.now) c.args.xs.now c.args.height (ap (λ (d : Drawing). d.shapes.labels) is)) c.drawn.ensures.exact

pub returns-clause-extracts : goal.returns-clause-extracts
returns-clause-extracts c = IfOk-weaker c.drawn.result _ _ (λ d is. drawn_extracts d c.args.names.now c.args.pins.now c.args.placement.now (wiring_of c.args.tracks c.args.trunks.now) c.args.xs.now c.args.height is c.requires.placement c.requires.row c.requires.wiring c.requires.lines) c.drawn.ensures.exact

pub returns-clause-shows : goal.returns-clause-shows
returns-clause-shows c = IfOk-weaker c.drawn.result _ _ (λ d is. drawn_shows d c.args.names.now c.args.pins.now c.args.placement.now (wiring_of c.args.tracks c.args.trunks.now) c.args.xs.now c.args.height is c.requires.placement c.requires.row c.requires.wiring c.requires.lines) c.drawn.ensures.exact

pub returns-clause-framed : goal.returns-clause-framed
returns-clause-framed c = IfOk-weaker c.drawn.result _ _ (λ d is. drawn_framed c.args.names.now c.args.pins.now c.args.placement.now (wiring_of c.args.tracks c.args.trunks.now) c.args.xs.now c.args.height d is c.requires.placement c.requires.row c.requires.wiring c.requires.lines) c.drawn.ensures.exact

pub returns-clause-begins : goal.returns-clause-begins
returns-clause-begins c = IfOk-weaker c.drawn.result _ _ (λ d is. drawn_begins c.args.names.now c.args.pins.now c.args.placement.now (wiring_of c.args.tracks c.args.trunks.now) c.args.xs.now c.args.height d is) c.drawn.ensures.exact
