use Rattle.std.proofs.Common.{subst}
use Rattle.cell_inputs.specs.Inputs.{inputs_of}
use Rattle.cell_commands.proofs.Named.{inside_named}
use Rattle.cell_commands.specs.Searched.{Crowds, IsFoundBy, IsOpenBy, IsSearched}
use Rattle.cell_commands.proofs.Ended.{crowded_to, found_arranges, found_fits, made_to, open_fits, open_to}
use Rattle.cell_commands.proofs.making.make.Goals as goal

pub certified-requires-clause-arranged : goal.certified-requires-clause-arranged
certified-requires-clause-arranged c =
    let found : IsFoundBy c.args.evidence c.args.inputs.now c.in-Found.row c.in-Found.certificate = subst (IsSearched c.args.evidence c.args.inputs.now) c.in-Found.is c.in_ok-searched.ensures in
    found_arranges c.args.evidence c.args.inputs.now c.in-Found.row c.in-Found.certificate found

pub certified-requires-clause-fits : goal.certified-requires-clause-fits
certified-requires-clause-fits c =
    let found : IsFoundBy c.args.evidence c.args.inputs.now c.in-Found.row c.in-Found.certificate = subst (IsSearched c.args.evidence c.args.inputs.now) c.in-Found.is c.in_ok-searched.ensures in
    found_fits c.args.evidence c.args.inputs.now c.in-Found.row c.in-Found.certificate found

pub returns-in-Found : goal.returns-in-Found
returns-in-Found c =
    let found : IsFoundBy c.args.evidence c.args.inputs.now c.in-Found.row c.in-Found.certificate = subst (IsSearched c.args.evidence c.args.inputs.now) c.in-Found.is c.in_ok-searched.ensures in
    made_to c.args.evidence c.args.style c.args.inputs.now c.args.stem.now c.in-Found.row c.in-Found.certificate c.certified.result found c.certified.ensures

pub open_end-requires-clause-name : goal.open_end-requires-clause-name
open_end-requires-clause-name c = inside_named c.args.inputs.now (inputs_of c.inputs.inside.tech c.inputs.inside.cell c.inputs.inside.fingers) c.inputs.view_is c.show_limits.ensures

pub open_end-requires-clause-fits : goal.open_end-requires-clause-fits
open_end-requires-clause-fits c =
    let spent : IsOpenBy c.args.evidence c.args.inputs.now c.in-Open.proved c.in-Open.certificate = subst (IsSearched c.args.evidence c.args.inputs.now) c.in-Open.is c.in_ok-searched.ensures in
    open_fits c.args.evidence c.args.inputs.now c.in-Open.proved c.in-Open.certificate spent

pub returns-in-Open : goal.returns-in-Open
returns-in-Open c =
    let spent : IsOpenBy c.args.evidence c.args.inputs.now c.in-Open.proved c.in-Open.certificate = subst (IsSearched c.args.evidence c.args.inputs.now) c.in-Open.is c.in_ok-searched.ensures in
    open_to c.args.evidence c.args.style c.args.inputs.now (inputs_of c.inputs.inside.tech c.inputs.inside.cell c.inputs.inside.fingers) c.args.stem.now c.in-Open.proved c.in-Open.certificate c.open_end.result
    c.inputs.view_is spent c.open_end.ensures

pub returns-in-Crowded : goal.returns-in-Crowded
returns-in-Crowded c =
    let crowded : Crowds c.args.evidence c.args.inputs.now c.in-Crowded.gate = subst (IsSearched c.args.evidence c.args.inputs.now) c.in-Crowded.is c.in_ok-searched.ensures in
    crowded_to c.args.evidence c.args.style c.args.inputs.now (inputs_of c.inputs.inside.tech c.inputs.inside.cell c.inputs.inside.fingers) c.args.stem.now c.in-Crowded.gate c.too_many_pairings.result
    c.inputs.view_is crowded c.too_many_pairings.ensures
