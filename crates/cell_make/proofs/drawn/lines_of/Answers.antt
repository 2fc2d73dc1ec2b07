use Rattle.std.proofs.Common.{◌≡◌, ◌*◌, length, sym, subst, rules}
use Rattle.std.proofs.lemmas.Result.{IfOk-weaker}
use Rattle.channel_route.specs.Wiring.{AreWiring}
use Rattle.row_compact.specs.Allowed.{AreDistances, stretches_of}
use Rattle.cell_make.proofs.LeastLines.{least_are}
use Rattle.cell_make.proofs.drawn.lines_of.Goals as goal

pub wiring_distances-requires-clause-wiring : goal.wiring_distances-requires-clause-wiring
wiring_distances-requires-clause-wiring c =
    let same : c.as_slice.result.now ≡ c.args.routing.now.trunks = search rules in
    subst (λ trunks. AreWiring c.args.placement.now c.args.pins.now trunks) (sym same)
    (record { tracks = c.args.routing.now.tracks; wiring = c.requires.wiring })

pub returns-clause-least : goal.returns-clause-least
returns-clause-least c =
    let same : c.as_slice.result.now ≡ c.args.routing.now.trunks = search rules in
    let are = subst (λ trunks. AreDistances c.args.placement.now c.args.pins.now (stretches_of trunks) c.in_ok-distances.distances) same c.in_ok-distances.ensures.solutions in
    IfOk-weaker c.least_lines.result _ _ (λ xs is. least_are c.args.placement.now c.args.pins.now c.args.routing.now c.in_ok-distances.distances xs are c.in_ok-distances.ensures.lines is) c.least_lines.ensures.least

pub returns-clause-low : goal.returns-clause-low
returns-clause-low c = IfOk-weaker c.least_lines.result _ _ (λ xs low. low (2 * length c.args.placement.now.units)) c.least_lines.ensures.low
