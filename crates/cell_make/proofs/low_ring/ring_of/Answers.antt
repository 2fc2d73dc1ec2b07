use Rattle.std.proofs.Common.{arith, subst, sym}
use Rattle.channel_route.specs.declared.ring.Ring.{Ring}
use Rattle.cell_inputs.specs.Inputs.{inputs_of}
use Rattle.cell_make.specs.declared.channel.ChannelStop.{ChannelStop}
use Rattle.cell_make.specs.Channel.{TellsRing}
use Rattle.cell_make.specs.LowRows.{IsRinged}
use Rattle.cell_make.specs.Style.{IsToldRing}
use Rattle.cell_make.proofs.LowRows.{ringed_so, routable_so, wired_so}
use Rattle.cell_make.proofs.Makes.{all_pins, few_columns}
use Rattle.cell_make.proofs.low_ring.ring_of.Goals as goal

pub place-requires-clause-columns : goal.place-requires-clause-columns
place-requires-clause-columns c = c.requires.columns

pub place-requires-clause-few : goal.place-requires-clause-few
place-requires-clause-few c = omega (arith, few_columns c.args.inputs.now c.args.row.now c.show_limits.ensures c.requires)

pub route_by-requires-clause-pins : goal.route_by-requires-clause-pins
route_by-requires-clause-pins c = all_pins c.args.inputs.now (inputs_of c.inputs.inside.tech c.inputs.inside.cell c.inputs.inside.fingers) c.args.row.now c.in_ok-placement.placement c.inputs.view_is c.show_limits.ensures c.requires c.in_ok-placement.ensures.pins

pub returns-in-Ok-clause-ring : goal.returns-in-Ok-clause-ring
returns-in-Ok-clause-ring c = wired_so c.args.wiring c.args.inputs.now (inputs_of c.inputs.inside.tech c.inputs.inside.cell c.inputs.inside.fingers) c.args.row.now c.in_ok-placement.placement c.in-Ok.routing c.inputs.view_is c.in_ok-placement.ensures.exact c.in-Ok.ensures.legal

pub returns-in-Ok-clause-routed : goal.returns-in-Ok-clause-routed
returns-in-Ok-clause-routed c = routable_so c.args.wiring c.args.inputs.now (inputs_of c.inputs.inside.tech c.inputs.inside.cell c.inputs.inside.fingers) c.args.row.now c.in_ok-placement.placement c.in-Ok.routing c.inputs.view_is c.in_ok-placement.ensures.exact c.in-Ok.ensures.legal c.in-Ok.ensures.tight

pub returns-in-Err-Ring-clause-ring : goal.returns-in-Err-Ring-clause-ring
returns-in-Err-Ring-clause-ring c =
    let told : IsToldRing c.args.wiring c.in_ok-placement.placement c.inputs.inside.cell.pins c.in-Err-Ring.ring = subst (λ (why : ChannelStop). TellsRing c.args.wiring c.in_ok-placement.placement c.inputs.inside.cell.pins why) c.in-Err-Ring.field-0-is c.in-Err-Ring.ensures.told in
    subst (λ (ring : Ring). IsRinged c.args.wiring c.args.inputs.now c.args.row.now ring) (sym c.in-Err-Ring.ring-is)
    (ringed_so c.args.wiring c.args.inputs.now (inputs_of c.inputs.inside.tech c.inputs.inside.cell c.inputs.inside.fingers) c.args.row.now c.in_ok-placement.placement c.in-Err-Ring.ring c.inputs.view_is c.in_ok-placement.ensures.exact told)

pub returns-in-Err-Ring-clause-routed : goal.returns-in-Err-Ring-clause-routed
returns-in-Err-Ring-clause-routed c none =
    let told : IsToldRing c.args.wiring c.in_ok-placement.placement c.inputs.inside.cell.pins c.in-Err-Ring.ring = subst (λ (why : ChannelStop). TellsRing c.args.wiring c.in_ok-placement.placement c.inputs.inside.cell.pins why) c.in-Err-Ring.field-0-is c.in-Err-Ring.ensures.told in
    let ringed : IsRinged c.args.wiring c.args.inputs.now c.args.row.now c.in-Err-Ring.ring = ringed_so c.args.wiring c.args.inputs.now (inputs_of c.inputs.inside.tech c.inputs.inside.cell c.inputs.inside.fingers) c.args.row.now c.in_ok-placement.placement c.in-Err-Ring.ring c.inputs.view_is c.in_ok-placement.ensures.exact told in
    absurd (ringed.cyclic none)
