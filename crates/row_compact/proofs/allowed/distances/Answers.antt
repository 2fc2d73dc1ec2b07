use Rattle.std.proofs.Common.{◌≡◌, sym, subst, rules}
use Rattle.channel_route.proofs.LegalWiring.{legal_wiring}
use Rattle.channel_route.specs.Wiring.{AreWiring}
use Rattle.row_compact.proofs.allowed.distances.Goals as goal

pub wiring_distances-requires-clause-wiring : goal.wiring_distances-requires-clause-wiring
wiring_distances-requires-clause-wiring c =
    let same : c.as_slice.result.now ≡ c.args.routing.now.trunks = search rules in
    subst (λ trunks. AreWiring c.args.placement.now c.args.pins.now trunks) (sym same)
    (record { tracks = c.args.routing.now.tracks; wiring = legal_wiring c.args.placement.now c.args.pins.now c.args.routing.now c.requires.routing })
