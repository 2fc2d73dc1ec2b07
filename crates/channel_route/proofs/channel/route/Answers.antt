use Rattle.std.proofs.Common.{◌≡◌, ◌≢◌, List, [], All, Contains, IsPermutation, get_or, map, ap, rules, sym, subst}
use Rattle.cell_num.specs.declared.net.NetNo.{NetNo}
use Rattle.channel_route.specs.declared.routing.Above.{Above}
use Rattle.channel_route.specs.declared.routing.Trunk.{Trunk}
use Rattle.channel_route.specs.declared.constraint.Constraint.{Constraint}
use Rattle.channel_route.specs.declared.cycle.Step.{Step}
use Rattle.channel_route.specs.declared.sweep.Filled.{Filled}
use Rattle.channel_route.specs.declared.sweep.Filled.TheVariants.{Stuck}
use Rattle.channel_route.specs.declared.wire.PlacedWire.{PlacedWire}
use Rattle.channel_route.specs.declared.wire.Wire.{Wire}
use Rattle.channel_route.specs.Routing.{IsLegal, IsTight, IsDensity, HasNoAbove}
use Rattle.channel_route.specs.Graph.{trunk_of, IsChannel, IsFilled, IsOutcome}
use Rattle.channel_route.specs.Told.{IsTold}
use Rattle.channel_route.specs.Turn.{steps, above_of, AreInOrder, IsDown}
use Rattle.channel_route.specs.Walk.{IsKeyCycleBelow}
use Rattle.channel_route.specs.Wires.{constraints_of}
use Rattle.channel_route.proofs.ConstraintsOf.{in_order}
use Rattle.channel_route.proofs.Density.{density}
use Rattle.channel_route.proofs.Legal.{IsDone, routing_of, legal, tight, acyclic}
use Rattle.channel_route.proofs.Stuck.{AreNetsLeft, told, cycle_is}
use Rattle.channel_route.proofs.TrunkChannel.{channel, constraint_is, keys_ascend}
use Rattle.channel_route.proofs.channel.route.Goals as goal

pub fill-requires-clause-channel : goal.fill-requires-clause-channel
fill-requires-clause-channel c =
    let same : c.deref-2.result.now ≡ constraints_of c.in_ok-wires.wires.items c.args.placement.now.nodes = search rules in
    subst (λ (cs : List Constraint). IsChannel c.in_ok-wires.wires.items cs) (sym same) (channel c.args.placement.now c.args.pins.now c.in_ok-wires.wires.items c.in_ok-wires.ensures.wires)

done : (c : goal.After-drop-constraints-in-Done) → IsDone c.args.placement.now c.args.pins.now c.in_ok-wires.wires.items c.in-Done.placed.items c.in_ok-trunks-in-Done.trunks.items c.in-Done.tracks
done c =
    let same : c.deref-2.result.now ≡ constraints_of c.in_ok-wires.wires.items c.args.placement.now.nodes = search rules in
    let lent : c.deref-in-Done.result.now ≡ c.in-Done.placed.items = search rules in
    let filled : IsFilled c.in_ok-wires.wires.items c.deref-2.result.now c.in-Done.placed.items [] c.in-Done.tracks = subst (λ (f : Filled). IsOutcome c.in_ok-wires.wires.items c.deref-2.result.now f) c.in-Done.is c.in_ok-placed.ensures in
    record {
      wired = c.in_ok-wires.ensures.wires;
      filled = subst (λ (cs : List Constraint). IsFilled c.in_ok-wires.wires.items cs c.in-Done.placed.items [] c.in-Done.tracks) same filled;
      moved = subst (λ (ts : List PlacedWire). IsPermutation (map trunk_of ts) c.in_ok-trunks-in-Done.trunks.items) lent c.in_ok-trunks-in-Done.ensures.moved;
      sorted = c.in_ok-trunks-in-Done.ensures.sorted;
    }

pub returns-in-Done-clause-legal : goal.returns-in-Done-clause-legal
returns-in-Done-clause-legal c = subst (λ (ts : List Trunk). IsLegal c.args.placement.now c.args.pins.now (routing_of ts c.in-Done.tracks)) (sym c.from_vec.ensures) (legal c.args.placement.now c.args.pins.now c.in_ok-wires.wires.items c.in-Done.placed.items c.in_ok-trunks-in-Done.trunks.items c.in-Done.tracks (done c))

pub returns-in-Done-clause-tight : goal.returns-in-Done-clause-tight
returns-in-Done-clause-tight c = subst (λ (ts : List Trunk). IsTight c.args.placement.now c.args.pins.now (routing_of ts c.in-Done.tracks)) (sym c.from_vec.ensures) (tight c.args.placement.now c.args.pins.now c.in_ok-wires.wires.items c.in-Done.placed.items c.in_ok-trunks-in-Done.trunks.items c.in-Done.tracks (done c))

pub returns-in-Done-clause-density : goal.returns-in-Done-clause-density
returns-in-Done-clause-density c = subst (λ (ts : List Trunk). HasNoAbove c.args.placement.now c.args.pins.now → IsDensity ts c.in-Done.tracks) (sym c.from_vec.ensures) (density c.args.placement.now c.args.pins.now c.in_ok-wires.wires.items c.in-Done.placed.items c.in_ok-trunks-in-Done.trunks.items c.in-Done.tracks (done c))

pub returns-in-Done-clause-acyclic : goal.returns-in-Done-clause-acyclic
returns-in-Done-clause-acyclic c = acyclic c.args.placement.now c.args.pins.now (routing_of c.in_ok-trunks-in-Done.trunks.items c.in-Done.tracks) (legal c.args.placement.now c.args.pins.now c.in_ok-wires.wires.items c.in-Done.placed.items c.in_ok-trunks-in-Done.trunks.items c.in-Done.tracks (done c))

pub find_cycle-requires-clause-differ : goal.find_cycle-requires-clause-differ
find_cycle-requires-clause-differ c =
    let same : c.deref-in-Stuck-2.result.now ≡ constraints_of c.in_ok-wires.wires.items c.args.placement.now.nodes = search rules in
    subst (λ (cs : List Constraint). (d : Constraint) → Contains cs d → d.upper ≢ d.lower) (sym same) (λ d there e. (constraint_is c.args.placement.now c.args.pins.now c.in_ok-wires.wires.items c.in_ok-wires.ensures.wires d there).differ (ap (λ n. let net : NetNo = record { 0 = n } in net) e))

pub find_cycle-requires-clause-order : goal.find_cycle-requires-clause-order
find_cycle-requires-clause-order c =
    let same : c.deref-in-Stuck-2.result.now ≡ constraints_of c.in_ok-wires.wires.items c.args.placement.now.nodes = search rules in
    subst (λ (cs : List Constraint). AreInOrder cs) (sym same) (in_order c.args.placement.now c.requires.placement c.in_ok-wires.wires.items c.in_ok-wires.ensures.wires.found.distinct (keys_ascend c.args.placement.now c.args.pins.now c.in_ok-wires.wires.items c.in_ok-wires.ensures.wires.found))

pub returns-clause-told : goal.returns-clause-told
returns-clause-told c =
    let wires : List Wire = c.in_ok-wires.wires.items in
    let left : List Wire = c.in-Stuck.left.items in
    let first : Wire = c.index.result.now in
    let cs : List Constraint = constraints_of wires c.args.placement.now.nodes in
    let cycle : List Step = c.in_ok-cycle-in-Stuck.cycle.items in
    let same : c.deref-2.result.now ≡ cs = search rules in
    let same-2 : c.deref-in-Stuck-2.result.now ≡ cs = search rules in
    let lent : c.deref-in-Stuck.result.now ≡ left = search rules in
    let lent-2 : c.deref-in-Stuck-3.result.now ≡ cycle = search rules in
    let begins : first.key ≡ (get_or left 0 first).key = ap (λ (w : Wire). w.key) c.index.ensures in
    let stuck : IsOutcome wires cs (Stuck c.in-Stuck.left) = subst (λ (z : List Constraint). IsOutcome wires z (Stuck c.in-Stuck.left)) same (subst (λ (f : Filled). IsOutcome wires c.deref-2.result.now f) c.in-Stuck.is c.in_ok-placed.ensures) in
    let are : AreNetsLeft c.args.placement.now c.args.pins.now wires left stuck.2 stuck.3 = record { wired = c.in_ok-wires.ensures.wires; are = record { filled = stuck.4; stuck = stuck.1 } } in
    let down : IsKeyCycleBelow steps (IsDown left cs) first.key cycle = subst (λ (ws : List Wire). IsKeyCycleBelow steps (IsDown ws cs) first.key cycle) lent (subst (λ (z : List Constraint). IsKeyCycleBelow steps (IsDown c.deref-in-Stuck.result.now z) first.key cycle) same-2 c.in_ok-cycle-in-Stuck.ensures.cycle) in
    let below : IsKeyCycleBelow steps (IsDown left cs) (get_or left 0 first).key cycle = subst (λ n. IsKeyCycleBelow steps (IsDown left cs) n cycle) begins down in
    let inside : All (λ (s : Step). Contains left s.wire) cycle = subst (λ (ws : List Wire). All (λ (s : Step). Contains ws s.wire) cycle) lent c.in_ok-cycle-in-Stuck.ensures.wires in
    let nets : c.in_ok-nets_of-in-Stuck.field-0 ≡ map above_of cycle = subst (λ (xs : List Step). c.in_ok-nets_of-in-Stuck.field-0 ≡ map above_of xs) lent-2 c.in_ok-nets_of-in-Stuck.ensures in
    subst (λ (xs : List Above). IsTold c.args.placement.now c.args.pins.now xs) (sym nets) (told c.args.placement.now c.args.pins.now wires left stuck.2 stuck.3 are first stuck.0 cycle below inside)

pub returns-clause-cause : goal.returns-clause-cause
returns-clause-cause c = cycle_is c.args.placement.now c.args.pins.now c.in_ok-nets_of-in-Stuck.field-0 (returns-clause-told c)
