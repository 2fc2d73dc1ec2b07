use Rattle.std.proofs.Common.{subst}
use Rattle.cell_inputs.specs.Inputs.{inputs_of}
use Rattle.cell_commands.proofs.Named.{inside_named}
use Rattle.cell_commands.specs.Plan.{Planned, Open, Crowded}
use Rattle.cell_commands.specs.Searched.{Crowds, IsFoundBy, IsOpenBy, IsSearched}
use Rattle.cell_commands.proofs.Ended.{found_arranges, open_fits, short_row}
use Rattle.cell_commands.proofs.Planned.{plans_to}
use Rattle.cell_commands.proofs.planning.plan.Goals as goal

pub planned-end-requires : goal.planned-end-requires
planned-end-requires c =
    let found : IsFoundBy c.args.evidence c.args.inputs.now c.in-Found.row c.in-Found.certificate = subst (IsSearched c.args.evidence c.args.inputs.now) c.in-Found.is c.in_ok-searched.ensures in
    short_row c.args.inputs.now c.in-Found.row c.show_limits.ensures (found_arranges c.args.evidence c.args.inputs.now c.in-Found.row c.in-Found.certificate found)

pub returns-in-Found : goal.returns-in-Found
returns-in-Found c =
    let found : IsFoundBy c.args.evidence c.args.inputs.now c.in-Found.row c.in-Found.certificate = subst (IsSearched c.args.evidence c.args.inputs.now) c.in-Found.is c.in_ok-searched.ensures in
    plans_to c.args.evidence c.args.inputs.now (inputs_of c.inputs.inside.tech c.inputs.inside.cell c.inputs.inside.fingers) (Planned c.in-Found.row c.in-Found.certificate) c.planned-end.result
    c.inputs.view_is found c.planned-end.ensures

pub unfinished-requires-clause-name : goal.unfinished-requires-clause-name
unfinished-requires-clause-name c = inside_named c.args.inputs.now (inputs_of c.inputs.inside.tech c.inputs.inside.cell c.inputs.inside.fingers) c.inputs.view_is c.show_limits.ensures

pub unfinished-requires-clause-fits : goal.unfinished-requires-clause-fits
unfinished-requires-clause-fits c =
    let spent : IsOpenBy c.args.evidence c.args.inputs.now c.in-Open.proved c.in-Open.certificate = subst (IsSearched c.args.evidence c.args.inputs.now) c.in-Open.is c.in_ok-searched.ensures in
    open_fits c.args.evidence c.args.inputs.now c.in-Open.proved c.in-Open.certificate spent

pub returns-in-Open : goal.returns-in-Open
returns-in-Open c =
    let spent : IsOpenBy c.args.evidence c.args.inputs.now c.in-Open.proved c.in-Open.certificate = subst (IsSearched c.args.evidence c.args.inputs.now) c.in-Open.is c.in_ok-searched.ensures in
    plans_to c.args.evidence c.args.inputs.now (inputs_of c.inputs.inside.tech c.inputs.inside.cell c.inputs.inside.fingers) (Open c.in-Open.proved c.in-Open.certificate) c.unfinished.result
    c.inputs.view_is spent c.unfinished.ensures

pub returns-in-Crowded : goal.returns-in-Crowded
returns-in-Crowded c =
    let crowded : Crowds c.args.evidence c.args.inputs.now c.in-Crowded.gate = subst (IsSearched c.args.evidence c.args.inputs.now) c.in-Crowded.is c.in_ok-searched.ensures in
    plans_to c.args.evidence c.args.inputs.now (inputs_of c.inputs.inside.tech c.inputs.inside.cell c.inputs.inside.fingers) (Crowded c.in-Crowded.gate) c.too_many_pairings.result
    c.inputs.view_is crowded c.too_many_pairings.ensures
