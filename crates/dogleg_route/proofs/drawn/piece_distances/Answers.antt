use Rattle.std.proofs.Common.{◌≡◌, sym, subst, rules}
use Rattle.channel_route.specs.Wiring.{AreWiring}
use Rattle.dogleg_route.proofs.Wired.{wired}
use Rattle.dogleg_route.proofs.drawn.piece_distances.Goals as goal

pub wiring_distances-requires-clause-wiring : goal.wiring_distances-requires-clause-wiring
wiring_distances-requires-clause-wiring c =
    let same : c.as_slice.result.now ≡ c.args.routing.now.pieces = search rules in
    subst (λ trunks. AreWiring c.args.placement.now c.args.pins.now trunks) (sym same)
    (record { tracks = c.args.routing.now.tracks; wiring = wired c.args.placement.now c.args.pins.now c.args.routing.now c.requires.routing })
