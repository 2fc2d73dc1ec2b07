use Rattle.std.proofs.lemmas.Result.{IfOk-weaker}
use Rattle.dogleg_route.proofs.FirstLabels.{firsts}
use Rattle.dogleg_route.proofs.Wired.{wired}
use Rattle.dogleg_route.proofs.drawn.draw_pieces.Goals as goal

pub draw_wiring-requires-clause-wiring : goal.draw_wiring-requires-clause-wiring
draw_wiring-requires-clause-wiring c = wired c.args.placement.now c.args.pins.now c.args.routing.now c.requires.routing

pub returns-clause-firsts : goal.returns-clause-firsts
returns-clause-firsts c = IfOk-weaker c.draw_wiring.result _ _ (λ d is. firsts d c.args.names.now c.args.pins.now c.args.placement.now c.args.routing.now c.args.xs.now c.args.height is c.requires.placement c.requires.row c.requires.routing) c.draw_wiring.ensures.exact
