use Rattle.std.proofs.Common.{arith, subst, sym}
use Rattle.cell_inputs.specs.declared.style.Style.{Style}
use Rattle.cell_inputs.specs.Style.{plain_style}
use Rattle.cell_make.proofs.LowCell.{first_least, lowest_low, open_low, ring_low}
use Rattle.cell_make.proofs.Makes.{few_columns}
use Rattle.cell_make.specs.Low.{IsLowPlanned}
use Rattle.cell_make.specs.Rows.{ComesAs, ComesFrom, IsThat}
use Rattle.cell_make.specs.Style.{AreLegal}
use Rattle.cell_make.specs.declared.low_planned.LowPlanned.TheVariants as planned
use Rattle.row_place.specs.declared.placement.Placement.{Placement}
use Rattle.cell_make.proofs.low_drawn.LowDrawn.of.Goals as goal

pub of-requires : goal.of-requires
of-requires c = first_least c.args.inputs.now c.args.row.now c.requires

pub lowest-requires-clause-arranged : goal.lowest-requires-clause-arranged
lowest-requires-clause-arranged c =
    let h : IsLowPlanned plain_style.wiring c.args.inputs.now c.args.row.now (planned.Found c.in-Found.placement c.in-Found.routing c.in-Found.certificate) = subst (IsLowPlanned plain_style.wiring c.args.inputs.now c.args.row.now) c.in-Found.is c.in_ok-planned.ensures.planned in
    h.1.least.arranges

pub lowest-requires-clause-placed : goal.lowest-requires-clause-placed
lowest-requires-clause-placed c =
    let h : IsLowPlanned plain_style.wiring c.args.inputs.now c.args.row.now (planned.Found c.in-Found.placement c.in-Found.routing c.in-Found.certificate) = subst (IsLowPlanned plain_style.wiring c.args.inputs.now c.args.row.now) c.in-Found.is c.in_ok-planned.ensures.planned in
    h.0

pub lowest-requires-clause-legal : goal.lowest-requires-clause-legal
lowest-requires-clause-legal c =
    let h : IsLowPlanned plain_style.wiring c.args.inputs.now c.args.row.now (planned.Found c.in-Found.placement c.in-Found.routing c.in-Found.certificate) = subst (IsLowPlanned plain_style.wiring c.args.inputs.now c.args.row.now) c.in-Found.is c.in_ok-planned.ensures.planned in
    subst (λ (style : Style). AreLegal style.wiring c.in-Found.placement c.args.inputs.now.cell.pins c.in-Found.routing) (sym c.plain-style.ensures)
    (subst (λ (p : Placement). AreLegal plain_style.wiring p c.args.inputs.now.cell.pins c.in-Found.routing) (sym h.0) h.1.legal)

pub returns-in_ok-came-in-Found-clause-comes : goal.returns-in_ok-came-in-Found-clause-comes
returns-in_ok-came-in-Found-clause-comes c =
    lowest_low c.args.inputs.now c.args.row.now c.in-Found.placement c.in-Found.routing c.in-Found.certificate c.in_ok-came-in-Found.came
    (subst (IsLowPlanned plain_style.wiring c.args.inputs.now c.args.row.now) c.in-Found.is c.in_ok-planned.ensures.planned) c.in_ok-came-in-Found.ensures.wired
    (subst (λ (style : Style). ComesAs (IsThat c.in-Found.routing) style c.args.inputs.now c.in-Found.placement.row c.in_ok-came-in-Found.came) c.plain-style.ensures c.in_ok-came-in-Found.ensures.comes)

pub of-requires-in-Open : goal.of-requires-in-Open
of-requires-in-Open c =
    let h : IsLowPlanned plain_style.wiring c.args.inputs.now c.args.row.now (planned.Open c.in-Open.wired c.in-Open.certificate) = subst (IsLowPlanned plain_style.wiring c.args.inputs.now c.args.row.now) c.in-Open.is c.in_ok-planned.ensures.planned in
    h.0.wired.arranges

pub returns-in_ok-came-in-Open-clause-comes : goal.returns-in_ok-came-in-Open-clause-comes
returns-in_ok-came-in-Open-clause-comes c =
    open_low c.args.inputs.now c.args.row.now c.in-Open.wired c.in-Open.certificate c.in_ok-came-in-Open.came
    c.requires (subst (IsLowPlanned plain_style.wiring c.args.inputs.now c.args.row.now) c.in-Open.is c.in_ok-planned.ensures.planned)
    (subst (λ (style : Style). ComesFrom style c.args.inputs.now c.in-Open.wired c.in_ok-came-in-Open.came) c.plain-style.ensures c.in_ok-came-in-Open.ensures.comes)

pub place-requires-clause-columns : goal.place-requires-clause-columns
place-requires-clause-columns c = c.requires.arranges.columns

pub place-requires-clause-few : goal.place-requires-clause-few
place-requires-clause-few c = omega (arith, few_columns c.args.inputs.now c.args.row.now c.show_limits.ensures c.requires.arranges)

pub returns-in_ok-placement-in-Unwired-clause-comes : goal.returns-in_ok-placement-in-Unwired-clause-comes
returns-in_ok-placement-in-Unwired-clause-comes c =
    ring_low c.args.inputs.now c.args.row.now c.in-Unwired.ring c.in-Unwired.certificate c.in-Unwired.none_wired c.in_ok-placement-in-Unwired.placement
    (subst (IsLowPlanned plain_style.wiring c.args.inputs.now c.args.row.now) c.in-Unwired.is c.in_ok-planned.ensures.planned) c.in_ok-placement-in-Unwired.ensures.exact
