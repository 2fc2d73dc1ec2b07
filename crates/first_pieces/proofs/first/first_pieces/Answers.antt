use Rattle.std.proofs.Common.{rules, ◌≡◌, ◌<◌, List, [], map, refl, sym, subst, IsPermutation}
use Rattle.channel_route.specs.declared.constraint.Constraint.{Constraint}
use Rattle.channel_route.specs.declared.routing.Trunk.{Trunk}
use Rattle.channel_route.specs.declared.wire.PlacedWire.{PlacedWire}
use Rattle.channel_route.specs.declared.wire.Wire.{Wire}
use Rattle.channel_route.specs.Graph.{trunk_of}
use Rattle.channel_route.specs.Wires.{constraints_of}
use Rattle.first_route.specs.Tries.{tries}
use Rattle.first_route.specs.Ways.{AreFirst, Fails}
use Rattle.dogleg_route.proofs.PieceLegal.{routing_of}
use Rattle.first_pieces.specs.First.{IsFirstPieces}
use Rattle.first_pieces.proofs.Whole.{first_is, none_is}
use Rattle.first_pieces.proofs.first.first_pieces.Goals as goal

pub returns-in-Ok-clause-first : goal.returns-in-Ok-clause-first
returns-in-Ok-clause-first c =
    let wires : List Wire = c.in_ok-wires.wires.items in
    let cs : List Constraint = constraints_of wires c.args.placement.now.nodes in
    let pieces : List Trunk = c.in_ok-pieces-in-Ok.pieces.items in
    let same : c.deref-2.result.now ≡ cs = search rules in
    let lent : c.deref-3.result.now ≡ wires = search rules in
    let lent-2 : c.deref-in-Ok.result.now ≡ c.in-Ok.placed.items = search rules in
    let found : AreFirst c.deref-2.result.now c.args.tracks [] c.deref-3.result.now c.in-Ok.placed.items = search rules in
    let first : AreFirst cs c.args.tracks [] wires c.in-Ok.placed.items = subst (λ (z : List Constraint). AreFirst z c.args.tracks [] wires c.in-Ok.placed.items) same (subst (λ (ws : List Wire). AreFirst c.deref-2.result.now c.args.tracks [] ws c.in-Ok.placed.items) lent found) in
    let moved : IsPermutation (map trunk_of c.in-Ok.placed.items) pieces = subst (λ (ts : List PlacedWire). IsPermutation (map trunk_of ts) pieces) lent-2 c.in_ok-pieces-in-Ok.ensures.moved in
    subst (λ (ts : List Trunk). IsFirstPieces c.args.placement.now c.args.pins.now c.args.tracks (routing_of ts c.args.tracks)) (sym c.from_vec.ensures)
    (first_is c.args.placement.now c.args.pins.now wires c.in-Ok.placed.items pieces c.args.tracks c.requires.placement c.in_ok-wires.ensures.wires first moved c.in_ok-pieces-in-Ok.ensures.sorted)

pub returns-clause-none : goal.returns-clause-none
returns-clause-none c =
    let wires : List Wire = c.in_ok-wires.wires.items in
    let cs : List Constraint = constraints_of wires c.args.placement.now.nodes in
    let same : c.deref-2.result.now ≡ cs = search rules in
    let lent : c.deref-3.result.now ≡ wires = search rules in
    λ e.
    let fails : Fails c.deref-2.result.now c.args.tracks [] c.deref-3.result.now = c.in-Err.ensures.none e in
    none_is c.args.placement.now c.args.pins.now wires c.args.tracks c.in_ok-wires.ensures.wires (subst (λ (z : List Constraint). Fails z c.args.tracks [] wires) same (subst (λ (ws : List Wire). Fails c.deref-2.result.now c.args.tracks [] ws) lent fails))

pub returns-clause-more : goal.returns-clause-more
returns-clause-more c =
    let wires : List Wire = c.in_ok-wires.wires.items in
    let cs : List Constraint = constraints_of wires c.args.placement.now.nodes in
    let same : c.deref-2.result.now ≡ cs = search rules in
    let lent : c.deref-3.result.now ≡ wires = search rules in
    λ e.
    let less : c.args.budget.now < tries c.deref-2.result.now c.args.tracks [] c.deref-3.result.now = c.in-Err.ensures.more e in
    (tries cs c.args.tracks [] wires, record { wires = wires; wired = c.in_ok-wires.ensures.wires; are = refl }, subst (λ (z : List Constraint). c.args.budget.now < tries z c.args.tracks [] wires) same (subst (λ (ws : List Wire). c.args.budget.now < tries c.deref-2.result.now c.args.tracks [] ws) lent less))
