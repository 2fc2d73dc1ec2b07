use Rattle.std.proofs.Common.{subst}
use Rattle.cell_make.specs.LowWired.{IsWiredEnd}
use Rattle.cell_make.specs.declared.low_wired.LowWired.TheVariants as wired
use Rattle.cell_make.proofs.low_planned.LowPlanned.by_cycles.Goals as goal

pub by_tracks-requires-clause-wired : goal.by_tracks-requires-clause-wired
by_tracks-requires-clause-wired c =
    let found : IsWiredEnd c.args.inputs.now c.args.kinds.now (wired.Found c.in-Found.wired c.in-Found.cycles) = subst (IsWiredEnd c.args.inputs.now c.args.kinds.now) c.in-Found.is c.in_ok-ended.ensures in
    found.0.least

pub by_tracks-requires-clause-below : goal.by_tracks-requires-clause-below
by_tracks-requires-clause-below c =
    let found : IsWiredEnd c.args.inputs.now c.args.kinds.now (wired.Found c.in-Found.wired c.in-Found.cycles) = subst (IsWiredEnd c.args.inputs.now c.args.kinds.now) c.in-Found.is c.in_ok-ended.ensures in
    found.1

pub returns-in_ok-planned-in-Found : goal.returns-in_ok-planned-in-Found
returns-in_ok-planned-in-Found c =
    let found : IsWiredEnd c.args.inputs.now c.args.kinds.now (wired.Found c.in-Found.wired c.in-Found.cycles) = subst (IsWiredEnd c.args.inputs.now c.args.kinds.now) c.in-Found.is c.in_ok-ended.ensures in
    c.in_ok-planned-in-Found.ensures c.args.row.now (λ _. found.0)

pub returns-in-Open : goal.returns-in-Open
returns-in-Open c =
    let open' : IsWiredEnd c.args.inputs.now c.args.kinds.now (wired.Open c.in-Open.certificate c.in-Open.none_wired) = subst (IsWiredEnd c.args.inputs.now c.args.kinds.now) c.in-Open.is c.in_ok-ended.ensures in
    (c.requires.ring, open'.0, open'.1)
