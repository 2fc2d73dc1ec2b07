use Rattle.std.proofs.Common.{◌≡◌, ◌≤◌, List, length, arith, rules, sym, subst, IsPermutation}
use Rattle.row_place.specs.declared.placement.NodePlace.{NodePlace}
use Rattle.channel_route.specs.declared.wire.Wire.{Wire}
use Rattle.dogleg_route.specs.declared.cut.Stretch.{Stretch}
use Rattle.dogleg_route.specs.Cuts.{all_cuts, numbered_from}
use Rattle.dogleg_route.specs.PieceWires.{ArePieceWires}
use Rattle.dogleg_route.proofs.Numbers.{piece_wires, few_sorted, few_wires}
use Rattle.dogleg_route.proofs.router.piece_wires.Goals as goal

pub numbered-requires : goal.numbered-requires
numbered-requires c =
    let nodes : c.as_slice.result.now ≡ c.args.placement.now.nodes = search rules in
    let lent : c.deref.result.now ≡ c.in_ok-trunks.trunks.items = search rules in
    let sorted : c.deref-2.result.now ≡ c.sort.new.stretches.items = search rules in
    few_sorted c.args.placement.now c.in_ok-trunks.trunks.items c.deref.result.now c.as_slice.result.now c.in_ok-stretches.stretches.items c.sort.new.stretches.items c.deref-2.result.now c.requires.placement lent nodes sorted c.in_ok-trunks.ensures.few c.in_ok-stretches.ensures.few c.sort.ensures.moved

pub returns-clause-wires : goal.returns-clause-wires
returns-clause-wires c =
    let nodes : c.as_slice.result.now ≡ c.args.placement.now.nodes = search rules in
    let lent : c.deref.result.now ≡ c.in_ok-trunks.trunks.items = search rules in
    let sorted : c.deref-2.result.now ≡ c.sort.new.stretches.items = search rules in
    let cuts : c.in_ok-stretches.stretches.items ≡ all_cuts c.args.placement.now.nodes c.in_ok-trunks.trunks.items =
    subst (λ (ns : List NodePlace). c.in_ok-stretches.stretches.items ≡ all_cuts ns c.in_ok-trunks.trunks.items) nodes
    (subst (λ (ws : List Wire). c.in_ok-stretches.stretches.items ≡ all_cuts c.as_slice.result.now ws) lent c.in_ok-stretches.ensures.cuts) in
    let moved : IsPermutation (all_cuts c.args.placement.now.nodes c.in_ok-trunks.trunks.items) c.sort.new.stretches.items = subst (λ (ss : List Stretch). IsPermutation ss c.sort.new.stretches.items) cuts c.sort.ensures.moved in
    let wires : c.in_ok-numbered.field-0.items ≡ numbered_from 0 c.sort.new.stretches.items = subst (λ (ss : List Stretch). c.in_ok-numbered.field-0.items ≡ numbered_from 0 ss) sorted c.in_ok-numbered.ensures in
    subst (λ (ws : List Wire). ArePieceWires c.args.placement.now c.args.pins.now ws) (sym wires)
    (piece_wires c.args.placement.now c.args.pins.now c.in_ok-trunks.trunks.items c.sort.new.stretches.items c.requires.placement c.in_ok-trunks.ensures.wires moved c.sort.ensures.sorted)

pub returns-clause-few : goal.returns-clause-few
returns-clause-few c =
    let nodes : c.as_slice.result.now ≡ c.args.placement.now.nodes = search rules in
    let lent : c.deref.result.now ≡ c.in_ok-trunks.trunks.items = search rules in
    let sorted : c.deref-2.result.now ≡ c.sort.new.stretches.items = search rules in
    let few : length c.deref-2.result.now ≤ 1000000 = few_sorted c.args.placement.now c.in_ok-trunks.trunks.items c.deref.result.now c.as_slice.result.now c.in_ok-stretches.stretches.items c.sort.new.stretches.items c.deref-2.result.now c.requires.placement lent nodes sorted c.in_ok-trunks.ensures.few c.in_ok-stretches.ensures.few c.sort.ensures.moved in
    let wires : c.in_ok-numbered.field-0.items ≡ numbered_from 0 c.deref-2.result.now = c.in_ok-numbered.ensures in
    subst (λ (ws : List Wire). length ws ≤ 1000000) (sym wires) (omega (arith, few_wires 0 c.deref-2.result.now, few))
