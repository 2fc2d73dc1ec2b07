use Rattle.std.proofs.Common.{◌≡◌, IfOk, arith, refl, subst, sym}
use Rattle.row_model.specs.Arrangement.{IsArrangement}
use Rattle.row_place.specs.declared.placement.Placement.{Placement}
use Rattle.row_place.specs.Places.{placement_of}
use Rattle.channel_route.specs.declared.ring.Ring.{Ring}
use Rattle.cell_inputs.specs.Inputs.{Inputs, inputs_of}
use Rattle.cell_make.specs.declared.channel.ChannelStop.{ChannelStop}
use Rattle.cell_make.specs.declared.draw_outcome.DrawOutcome.TheVariants as came
use Rattle.cell_make.specs.Channel.{TellsRing}
use Rattle.cell_make.specs.Rows.{ComesAs, ComesFrom, IsThat}
use Rattle.cell_make.specs.Style.{AreLegal}
use Rattle.cell_make.proofs.DrawnAs.{comes_from}
use Rattle.cell_make.proofs.Makes.{all_pins, few_columns, routed_so, told_so}
use Rattle.cell_make.proofs.draw_outcome.DrawOutcome.of.Goals as goal

pub place-requires-clause-columns : goal.place-requires-clause-columns
place-requires-clause-columns c = c.requires.columns

pub place-requires-clause-few : goal.place-requires-clause-few
place-requires-clause-few c = omega (arith, few_columns c.args.inputs.now c.args.row.now c.show_limits.ensures c.requires)

pub route_by-requires-clause-pins : goal.route_by-requires-clause-pins
route_by-requires-clause-pins c = all_pins c.args.inputs.now (inputs_of c.inputs.inside.tech c.inputs.inside.cell c.inputs.inside.fingers) c.args.row.now c.in_ok-placement.placement c.inputs.view_is c.show_limits.ensures c.requires c.in_ok-placement.ensures.pins

pub of_routed-requires-clause-arranged : goal.of_routed-requires-clause-arranged
of_routed-requires-clause-arranged c = subst (λ (p : Placement). IsArrangement p.row c.args.inputs.now.fingers) (sym c.in_ok-placement.ensures.exact) c.requires

pub of_routed-requires-clause-placed : goal.of_routed-requires-clause-placed
of_routed-requires-clause-placed c = subst (λ (p : Placement). p ≡ placement_of p.row) (sym c.in_ok-placement.ensures.exact) refl

pub of_routed-requires-clause-legal : goal.of_routed-requires-clause-legal
of_routed-requires-clause-legal c = subst (λ (i : Inputs). AreLegal c.args.style.wiring c.in_ok-placement.placement i.cell.pins c.in-Ok.routing) c.inputs.view_is c.in-Ok.ensures.legal

pub returns-in-Ok-clause-comes : goal.returns-in-Ok-clause-comes
returns-in-Ok-clause-comes c =
    comes_from c.args.style c.args.inputs.now c.args.row.now c.in-Ok.routing c.of_routed.result
    (routed_so c.args.style c.args.inputs.now (inputs_of c.inputs.inside.tech c.inputs.inside.cell c.inputs.inside.fingers) c.args.row.now c.in_ok-placement.placement c.in-Ok.routing c.inputs.view_is c.in_ok-placement.ensures.exact c.in-Ok.ensures.acyclic c.in-Ok.ensures.legal c.in-Ok.ensures.tight)
    (subst (λ (p : Placement). IfOk c.of_routed.result (ComesAs (IsThat c.in-Ok.routing) c.args.style c.args.inputs.now p.row)) c.in_ok-placement.ensures.exact c.of_routed.ensures.comes)

pub returns-in-Err-Ring-clause-comes : goal.returns-in-Err-Ring-clause-comes
returns-in-Err-Ring-clause-comes c =
    subst (λ (ring : Ring). ComesFrom c.args.style c.args.inputs.now c.args.row.now (came.Cyclic c.in_ok-placement.placement ring)) (sym c.in-Err-Ring.ring-is)
    (record {
      placed = c.in_ok-placement.ensures.exact;
      draws = told_so c.args.style c.args.inputs.now (inputs_of c.inputs.inside.tech c.inputs.inside.cell c.inputs.inside.fingers) c.args.row.now c.in_ok-placement.placement c.in-Err-Ring.ring
          c.inputs.view_is c.in_ok-placement.ensures.exact
          (subst (λ (why : ChannelStop). TellsRing c.args.style.wiring c.in_ok-placement.placement c.inputs.inside.cell.pins why) c.in-Err-Ring.field-0-is c.in-Err-Ring.ensures.told);
      exact = tt;
    })
