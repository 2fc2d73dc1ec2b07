use Rattle.std.proofs.Common.{◌≡◌, ◌≢◌, List, [], All, Contains, IsPermutation, get_or, map, ap, rules, sym, subst}
use Rattle.channel_route.specs.declared.routing.Trunk.{Trunk}
use Rattle.channel_route.specs.declared.routing.WireAbove.{WireAbove}
use Rattle.channel_route.specs.declared.constraint.Constraint.{Constraint}
use Rattle.channel_route.specs.declared.cycle.Step.{Step}
use Rattle.channel_route.specs.declared.sweep.Filled.{Filled}
use Rattle.channel_route.specs.declared.sweep.Filled.TheVariants.{Stuck}
use Rattle.channel_route.specs.declared.wire.PlacedWire.{PlacedWire}
use Rattle.channel_route.specs.declared.wire.Wire.{Wire}
use Rattle.channel_route.specs.Graph.{trunk_of, IsChannel, IsFilled, IsOutcome}
use Rattle.channel_route.specs.Turn.{steps, AreInOrder, IsDown}
use Rattle.channel_route.specs.Walk.{IsKeyCycleBelow}
use Rattle.channel_route.specs.Wires.{constraints_of}
use Rattle.channel_route.proofs.ConstraintsOf.{in_order}
use Rattle.channel_route.proofs.StuckKeys.{AreLeft}
use Rattle.dogleg_route.specs.Cuts.{entry_of}
use Rattle.dogleg_route.specs.PieceCycles.{IsPieceCycle, BeginsFirst}
use Rattle.dogleg_route.specs.PieceTold.{IsPieceTold}
use Rattle.dogleg_route.specs.Routings.{ArePiecesLegal, ArePiecesTight}
use Rattle.dogleg_route.proofs.Cycles.{no_piece_cycle}
use Rattle.dogleg_route.proofs.PieceChannel.{distinct, channel, keys_ascend, upper_not_lower}
use Rattle.dogleg_route.proofs.PieceDensity.{density}
use Rattle.dogleg_route.proofs.PieceLegal.{IsDone, routing_of, legal, tight}
use Rattle.dogleg_route.proofs.PieceTelling.{told}
use Rattle.dogleg_route.proofs.PieceWalks.{acyclic, cycle_is}
use Rattle.dogleg_route.proofs.router.route_pieces.Goals as goal

pub fill-requires-clause-channel : goal.fill-requires-clause-channel
fill-requires-clause-channel c =
    let same : c.deref-2.result.now ≡ constraints_of c.in_ok-wires.wires.items c.args.placement.now.nodes = search rules in
    subst (λ (cs : List Constraint). IsChannel c.in_ok-wires.wires.items cs) (sym same) (channel c.args.placement.now c.args.pins.now c.in_ok-wires.wires.items c.in_ok-wires.ensures.wires)

done : (c : goal.After-drop-constraints-in-Done) → IsDone c.args.placement.now c.args.pins.now c.in_ok-wires.wires.items c.in-Done.placed.items c.in_ok-pieces-in-Done.pieces.items c.in-Done.tracks
done c =
    let same : c.deref-2.result.now ≡ constraints_of c.in_ok-wires.wires.items c.args.placement.now.nodes = search rules in
    let lent : c.deref-in-Done.result.now ≡ c.in-Done.placed.items = search rules in
    let filled : IsFilled c.in_ok-wires.wires.items c.deref-2.result.now c.in-Done.placed.items [] c.in-Done.tracks = subst (λ (f : Filled). IsOutcome c.in_ok-wires.wires.items c.deref-2.result.now f) c.in-Done.is c.in_ok-placed.ensures in
    record {
      is = c.requires.placement;
      wired = c.in_ok-wires.ensures.wires;
      filled = subst (λ (cs : List Constraint). IsFilled c.in_ok-wires.wires.items cs c.in-Done.placed.items [] c.in-Done.tracks) same filled;
      moved = subst (λ (ts : List PlacedWire). IsPermutation (map trunk_of ts) c.in_ok-pieces-in-Done.pieces.items) lent c.in_ok-pieces-in-Done.ensures.moved;
      sorted = c.in_ok-pieces-in-Done.ensures.sorted;
    }

pub returns-in-Done-clause-legal : goal.returns-in-Done-clause-legal
returns-in-Done-clause-legal c = subst (λ (ts : List Trunk). ArePiecesLegal c.args.placement.now c.args.pins.now (routing_of ts c.in-Done.tracks)) (sym c.from_vec.ensures) (legal c.args.placement.now c.args.pins.now c.in_ok-wires.wires.items c.in-Done.placed.items c.in_ok-pieces-in-Done.pieces.items c.in-Done.tracks (done c))

pub returns-in-Done-clause-tight : goal.returns-in-Done-clause-tight
returns-in-Done-clause-tight c = subst (λ (ts : List Trunk). ArePiecesTight c.args.placement.now c.args.pins.now (routing_of ts c.in-Done.tracks)) (sym c.from_vec.ensures) (tight c.args.placement.now c.args.pins.now c.in_ok-wires.wires.items c.in-Done.placed.items c.in_ok-pieces-in-Done.pieces.items c.in-Done.tracks (done c))

pub returns-in-Done-clause-density : goal.returns-in-Done-clause-density
returns-in-Done-clause-density c = density c.args.placement.now c.args.pins.now c.in_ok-wires.wires.items c.in-Done.placed.items c.in_ok-pieces-in-Done.pieces.items c.in-Done.tracks (done c)

pub returns-in-Done-clause-acyclic : goal.returns-in-Done-clause-acyclic
returns-in-Done-clause-acyclic c = acyclic c.args.placement.now c.args.pins.now (routing_of c.in_ok-pieces-in-Done.pieces.items c.in-Done.tracks) (legal c.args.placement.now c.args.pins.now c.in_ok-wires.wires.items c.in-Done.placed.items c.in_ok-pieces-in-Done.pieces.items c.in-Done.tracks (done c))

pub find_cycle-requires-clause-differ : goal.find_cycle-requires-clause-differ
find_cycle-requires-clause-differ c =
    let same : c.deref-in-Stuck-2.result.now ≡ constraints_of c.in_ok-wires.wires.items c.args.placement.now.nodes = search rules in
    subst (λ (cs : List Constraint). (d : Constraint) → Contains cs d → d.upper ≢ d.lower) (sym same) (upper_not_lower c.args.placement.now c.args.pins.now c.in_ok-wires.wires.items c.in_ok-wires.ensures.wires)

pub find_cycle-requires-clause-order : goal.find_cycle-requires-clause-order
find_cycle-requires-clause-order c =
    let same : c.deref-in-Stuck-2.result.now ≡ constraints_of c.in_ok-wires.wires.items c.args.placement.now.nodes = search rules in
    subst (λ (cs : List Constraint). AreInOrder cs) (sym same) (in_order c.args.placement.now c.requires.placement c.in_ok-wires.wires.items (distinct c.args.placement.now c.args.pins.now c.in_ok-wires.wires.items c.in_ok-wires.ensures.wires) (keys_ascend c.args.placement.now c.args.pins.now c.in_ok-wires.wires.items c.in_ok-wires.ensures.wires))

pub returns-clause-cause : goal.returns-clause-cause
returns-clause-cause c =
    let wires : List Wire = c.in_ok-wires.wires.items in
    let left : List Wire = c.in-Stuck.left.items in
    let first : Wire = c.index.result.now in
    let cs : List Constraint = constraints_of wires c.args.placement.now.nodes in
    let cycle : List Step = c.in_ok-cycle-in-Stuck.cycle.items in
    let same : c.deref-2.result.now ≡ cs = search rules in
    let same-2 : c.deref-in-Stuck-2.result.now ≡ cs = search rules in
    let lent : c.deref-in-Stuck.result.now ≡ left = search rules in
    let lent-2 : c.deref-in-Stuck-3.result.now ≡ cycle = search rules in
    let stuck : IsOutcome wires cs (Stuck c.in-Stuck.left) = subst (λ (z : List Constraint). IsOutcome wires z (Stuck c.in-Stuck.left)) same (subst (λ (f : Filled). IsOutcome wires c.deref-2.result.now f) c.in-Stuck.is c.in_ok-placed.ensures) in
    let are : AreLeft wires left cs stuck.2 stuck.3 = record { filled = stuck.4; stuck = stuck.1 } in
    let down : IsKeyCycleBelow steps (IsDown left cs) first.key cycle = subst (λ (ws : List Wire). IsKeyCycleBelow steps (IsDown ws cs) first.key cycle) lent (subst (λ (z : List Constraint). IsKeyCycleBelow steps (IsDown c.deref-in-Stuck.result.now z) first.key cycle) same-2 c.in_ok-cycle-in-Stuck.ensures.cycle) in
    let inside : All (λ (s : Step). Contains left s.wire) cycle = subst (λ (ws : List Wire). All (λ (s : Step). Contains ws s.wire) cycle) lent c.in_ok-cycle-in-Stuck.ensures.wires in
    let entries : c.in_ok-entries_of-in-Stuck.field-0 ≡ map entry_of cycle = subst (λ (xs : List Step). c.in_ok-entries_of-in-Stuck.field-0 ≡ map entry_of xs) lent-2 c.in_ok-entries_of-in-Stuck.ensures in
    subst (λ (xs : List WireAbove). IsPieceCycle c.args.placement.now c.args.pins.now xs × BeginsFirst c.args.placement.now c.args.pins.now xs) (sym entries) (cycle_is c.args.placement.now c.args.pins.now wires left stuck.2 stuck.3 c.in_ok-wires.ensures.wires are first.key cycle down inside)

pub returns-clause-told : goal.returns-clause-told
returns-clause-told c =
    let wires : List Wire = c.in_ok-wires.wires.items in
    let left : List Wire = c.in-Stuck.left.items in
    let first : Wire = c.index.result.now in
    let cs : List Constraint = constraints_of wires c.args.placement.now.nodes in
    let cycle : List Step = c.in_ok-cycle-in-Stuck.cycle.items in
    let same : c.deref-2.result.now ≡ cs = search rules in
    let same-2 : c.deref-in-Stuck-2.result.now ≡ cs = search rules in
    let lent : c.deref-in-Stuck.result.now ≡ left = search rules in
    let lent-2 : c.deref-in-Stuck-3.result.now ≡ cycle = search rules in
    let stuck : IsOutcome wires cs (Stuck c.in-Stuck.left) = subst (λ (z : List Constraint). IsOutcome wires z (Stuck c.in-Stuck.left)) same (subst (λ (f : Filled). IsOutcome wires c.deref-2.result.now f) c.in-Stuck.is c.in_ok-placed.ensures) in
    let are : AreLeft wires left cs stuck.2 stuck.3 = record { filled = stuck.4; stuck = stuck.1 } in
    let down : IsKeyCycleBelow steps (IsDown left cs) first.key cycle = subst (λ (ws : List Wire). IsKeyCycleBelow steps (IsDown ws cs) first.key cycle) lent (subst (λ (z : List Constraint). IsKeyCycleBelow steps (IsDown c.deref-in-Stuck.result.now z) first.key cycle) same-2 c.in_ok-cycle-in-Stuck.ensures.cycle) in
    let inside : All (λ (s : Step). Contains left s.wire) cycle = subst (λ (ws : List Wire). All (λ (s : Step). Contains ws s.wire) cycle) lent c.in_ok-cycle-in-Stuck.ensures.wires in
    let entries : c.in_ok-entries_of-in-Stuck.field-0 ≡ map entry_of cycle = subst (λ (xs : List Step). c.in_ok-entries_of-in-Stuck.field-0 ≡ map entry_of xs) lent-2 c.in_ok-entries_of-in-Stuck.ensures in
    let begins : first.key ≡ (get_or left 0 first).key = ap (λ (w : Wire). w.key) c.index.ensures in
    let below : IsKeyCycleBelow steps (IsDown left cs) (get_or left 0 first).key cycle = subst (λ n. IsKeyCycleBelow steps (IsDown left cs) n cycle) begins down in
    subst (λ (xs : List WireAbove). IsPieceTold c.args.placement.now c.args.pins.now xs) (sym entries) (told c.args.placement.now c.args.pins.now wires left stuck.2 stuck.3 c.in_ok-wires.ensures.wires are first stuck.0 cycle below inside)

pub returns-clause-fewer : goal.returns-clause-fewer
returns-clause-fewer c entries e none = no_piece_cycle c.args.placement.now c.args.pins.now none c.in_ok-entries_of-in-Stuck.field-0 (returns-clause-cause c).0
