use Rattle.std.proofs.Common.{rules, ◌≡◌, ◌<◌, List, [], map, sym, subst}
use Rattle.channel_route.specs.declared.constraint.Constraint.{Constraint}
use Rattle.channel_route.specs.declared.routing.Trunk.{Trunk}
use Rattle.channel_route.specs.declared.wire.Wire.{Wire}
use Rattle.channel_route.specs.declared.wire.PlacedWire.{PlacedWire}
use Rattle.channel_route.specs.Graph.{trunk_of}
use Rattle.channel_route.specs.Wires.{constraints_of}
use Rattle.first_route.specs.First.{IsFirstRouting}
use Rattle.first_route.specs.Tries.{tries}
use Rattle.first_route.specs.Ways.{net_wire, AreFirst, Fails}
use Rattle.first_route.proofs.Whole.{IsGiven, given_lent, routing_of, first_is, none_is, all_tries}
use Rattle.first_route.proofs.first.first_routing.Goals as goal

pub returns-in-Ok-clause-first : goal.returns-in-Ok-clause-first
returns-in-Ok-clause-first c =
    let wires : List Wire = c.in_ok-wires.wires.items in
    let trunks : List Trunk = c.in_ok-trunks.trunks.items in
    let cs : List Constraint = c.deref-4.result.now in
    let lent-wires : c.deref-2.result.now ≡ wires = search rules in
    let lent-cs : cs ≡ constraints_of wires c.args.placement.now.nodes = search rules in
    let by_net : c.deref-5.result.now ≡ map net_wire trunks = search rules in
    let given : IsGiven c.args.placement.now c.args.pins.now wires cs trunks = given_lent c.args.placement.now c.args.pins.now wires c.deref-2.result.now cs trunks c.in_ok-wires.ensures.wires lent-cs lent-wires c.in_ok-trunks.ensures.moved c.in_ok-trunks.ensures.sorted in
    let found : AreFirst cs c.args.tracks [] c.deref-5.result.now c.in-Ok.placed.items = search rules in
    let first : AreFirst cs c.args.tracks [] (map net_wire trunks) c.in-Ok.placed.items = subst (λ (ws : List Wire). AreFirst cs c.args.tracks [] ws c.in-Ok.placed.items) by_net found in
    let lent : c.deref-in-Ok.result.now ≡ c.in-Ok.placed.items = search rules in
    let placed : c.in_ok-trunks-in-Ok.trunks.items ≡ map trunk_of c.in-Ok.placed.items = subst (λ (ts : List PlacedWire). c.in_ok-trunks-in-Ok.trunks.items ≡ map trunk_of ts) lent c.in_ok-trunks-in-Ok.ensures in
    subst (λ (ts : List Trunk). IsFirstRouting c.args.placement.now c.args.pins.now c.args.tracks (routing_of c.args.tracks ts)) (sym c.from_vec.ensures)
    (subst (λ (ts : List Trunk). IsFirstRouting c.args.placement.now c.args.pins.now c.args.tracks (routing_of c.args.tracks ts)) (sym placed) (first_is c.args.placement.now c.args.pins.now wires cs trunks given c.args.tracks c.in-Ok.placed.items first))

pub returns-clause-none : goal.returns-clause-none
returns-clause-none c =
    let wires : List Wire = c.in_ok-wires.wires.items in
    let trunks : List Trunk = c.in_ok-trunks.trunks.items in
    let cs : List Constraint = c.deref-4.result.now in
    let lent-wires : c.deref-2.result.now ≡ wires = search rules in
    let lent-cs : cs ≡ constraints_of wires c.args.placement.now.nodes = search rules in
    let by_net : c.deref-5.result.now ≡ map net_wire trunks = search rules in
    let given : IsGiven c.args.placement.now c.args.pins.now wires cs trunks = given_lent c.args.placement.now c.args.pins.now wires c.deref-2.result.now cs trunks c.in_ok-wires.ensures.wires lent-cs lent-wires c.in_ok-trunks.ensures.moved c.in_ok-trunks.ensures.sorted in
    λ e.
    let fails : Fails cs c.args.tracks [] c.deref-5.result.now = c.in-Err.ensures.none e in
    none_is c.args.placement.now c.args.pins.now wires cs trunks given c.args.tracks (subst (λ (ws : List Wire). Fails cs c.args.tracks [] ws) by_net fails)

pub returns-clause-more : goal.returns-clause-more
returns-clause-more c =
    let wires : List Wire = c.in_ok-wires.wires.items in
    let trunks : List Trunk = c.in_ok-trunks.trunks.items in
    let cs : List Constraint = c.deref-4.result.now in
    let lent-wires : c.deref-2.result.now ≡ wires = search rules in
    let lent-cs : cs ≡ constraints_of wires c.args.placement.now.nodes = search rules in
    let by_net : c.deref-5.result.now ≡ map net_wire trunks = search rules in
    let given : IsGiven c.args.placement.now c.args.pins.now wires cs trunks = given_lent c.args.placement.now c.args.pins.now wires c.deref-2.result.now cs trunks c.in_ok-wires.ensures.wires lent-cs lent-wires c.in_ok-trunks.ensures.moved c.in_ok-trunks.ensures.sorted in
    λ e.
    let less : c.args.budget.now < tries cs c.args.tracks [] c.deref-5.result.now = c.in-Err.ensures.more e in
    (tries cs c.args.tracks [] (map net_wire trunks), all_tries c.args.placement.now c.args.pins.now wires cs trunks given c.args.tracks, subst (λ (ws : List Wire). c.args.budget.now < tries cs c.args.tracks [] ws) by_net less)
