-- The tests by which the code tells contacted places decide the definitions.
use Rattle.std.proofs.Common.{ℕ, ◌≡◌, ◌==◌, ◌&&◌, true}
use Rattle.std.specs.Bool.{Decides}
use Rattle.std.proofs.lemmas.Bool.{and_parts, and_from, eqb-true, eq-eqb}
use Rattle.std.proofs.lemmas.Bool.Decides.{Decides-or}
use Rattle.cell_num.specs.declared.net.NetNo.{NetNo}
use Rattle.cell_num.specs.declared.net.Pins.{Pins}
use Rattle.cell_num.specs.Pins.{IsRail, is_rail}
use Rattle.row_model.proofs.Decide.{net_decides}
use Rattle.row_place.specs.declared.placement.NodePlace.{NodePlace}
use Rattle.row_place.specs.declared.placement.Placement.{Placement}
use Rattle.row_place.specs.Trunks.{HasTrunk, IsContacted}
use Rattle.channel_route.specs.declared.routing.Trunk.{Trunk}
use Rattle.channel_route.specs.declared.routing.Routing.{Routing}
use Rattle.channel_route.specs.Wiring.{IsWiring}
use Rattle.row_compact.specs.Allowed.{HasContact}
use Rattle.row_compact.specs.Entries.{has_trunk, is_contacted, is_wide}
use Rattle.cell_num.proofs.Pairs.{Some', some_from_any, any_at, test_finds, test_there}

pub rail_decides : (pins : Pins) (net : NetNo) → Decides (is_rail pins net) (IsRail pins net)
rail_decides pins net = Decides-or (net.0 == pins.vdd.0) (net.0 == pins.gnd.0) (net_decides net pins.vdd) (net_decides net pins.gnd)

pub trunk_decides : (p : Placement) (pins : Pins) (r : Routing) → IsWiring p pins r → (net : NetNo) → Decides (has_trunk r.trunks net) (HasTrunk p pins net)
trunk_decides p pins r wiring net = (there, back)
  where
    there : has_trunk r.trunks net ≡ true → HasTrunk p pins net
    there h =
        let t : Some' (λ (t : Trunk). (t.net.0 == net.0) ≡ true) r.trunks = test_finds (λ (t : Trunk). t.net.0 == net.0) r.trunks h in
        (wiring.nets net).1 (any_at (λ (u : Trunk). u.net ≡ net) r.trunks t.it t.there ((net_decides t.it.net net).0 t.holds))

    back : HasTrunk p pins net → has_trunk r.trunks net ≡ true
    back h =
        let t : Some' (λ (t : Trunk). t.net ≡ net) r.trunks = some_from_any (λ (u : Trunk). u.net ≡ net) r.trunks ((wiring.nets net).0 h) in
        test_there (λ (u : Trunk). u.net.0 == net.0) r.trunks t.it t.there ((net_decides t.it.net net).1 t.holds)

contacted_decides : (p : Placement) (pins : Pins) (r : Routing) → IsWiring p pins r → (node : NodePlace) → Decides (is_contacted pins r.trunks node.net) (IsContacted p pins node)
contacted_decides p pins r wiring node = Decides-or (is_rail pins node.net) (has_trunk r.trunks node.net) (rail_decides pins node.net) (trunk_decides p pins r wiring node.net)

pub wide_decides : (p : Placement) (pins : Pins) (r : Routing) → IsWiring p pins r → (line : ℕ) → Decides (is_wide pins r.trunks p.nodes line) (HasContact p pins line)
wide_decides p pins r wiring line = (there, back)
  where
    there : is_wide pins r.trunks p.nodes line ≡ true → HasContact p pins line
    there h =
        let t : Some' (λ (node : NodePlace). ((node.line == line) && is_contacted pins r.trunks node.net) ≡ true) p.nodes = test_finds (λ (node : NodePlace). (node.line == line) && is_contacted pins r.trunks node.net) p.nodes h in
        let both : ((t.it.line == line) ≡ true) × (is_contacted pins r.trunks t.it.net ≡ true) = and_parts (t.it.line == line) (is_contacted pins r.trunks t.it.net) t.holds in
        record { node = t.it; there = t.there; at = eqb-true t.it.line line both.0; contacted = (contacted_decides p pins r wiring t.it).0 both.1 }

    back : HasContact p pins line → is_wide pins r.trunks p.nodes line ≡ true
    back h = test_there (λ (node : NodePlace). (node.line == line) && is_contacted pins r.trunks node.net) p.nodes h.node h.there
        (and_from (h.node.line == line) (is_contacted pins r.trunks h.node.net) (eq-eqb h.node.line line h.at) ((contacted_decides p pins r wiring h.node).1 h.contacted))
