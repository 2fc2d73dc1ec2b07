use Rattle.std.proofs.lemmas.Result.{IfOk-weaker}
use Rattle.cell_draw.proofs.DrawnNets.{drawn_routing}
use Rattle.channel_route.proofs.LegalWiring.{legal_wiring}
use Rattle.cell_draw.proofs.cell.draw.Goals as goal

pub draw_wiring-requires-clause-wiring : goal.draw_wiring-requires-clause-wiring
draw_wiring-requires-clause-wiring c = legal_wiring c.args.placement.now c.args.pins.now c.args.routing.now c.requires.routing

pub returns-clause-routed : goal.returns-clause-routed
returns-clause-routed c = IfOk-weaker c.draw_wiring.result _ _ (λ d is. drawn_routing d c.args.names.now c.args.pins.now c.args.placement.now c.args.routing.now c.args.xs.now c.args.height is c.requires.placement c.requires.row c.requires.routing c.requires.lines) c.draw_wiring.ensures.exact
