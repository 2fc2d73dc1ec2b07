use Rattle.std.proofs.Common.{IfOk, subst}
use Rattle.call_words.specs.declared.evidence.Evidence.{Evidence}
use Rattle.cell_inputs.specs.Inputs.{inputs_of}
use Rattle.cell_commands.specs.Low.{MakesLowTo}
use Rattle.cell_commands.specs.Searched.{Crowds, IsFoundBy, IsOpenBy, IsSearched}
use Rattle.cell_commands.proofs.Ended.{open_fits}
use Rattle.cell_commands.proofs.Named.{inside_named}
use Rattle.cell_commands.proofs.Lows.{crowded_low, found_for, found_kind, open_low}
use Rattle.cell_commands.proofs.low.make_low.Goals as goal

pub found-requires : goal.found-requires
found-requires c =
    let is : IsFoundBy c.args.evidence c.args.inputs.now c.in-Found.row c.in-Found.certificate = subst (IsSearched c.args.evidence c.args.inputs.now) c.in-Found.is c.in_ok-searched.ensures in
    found_for c.args.evidence c.args.inputs.now c.in-Found.row c.in-Found.certificate is

pub returns-in-Found : goal.returns-in-Found
returns-in-Found c =
    let is : IsFoundBy c.args.evidence c.args.inputs.now c.in-Found.row c.in-Found.certificate = subst (IsSearched c.args.evidence c.args.inputs.now) c.in-Found.is c.in_ok-searched.ensures in
    subst (λ (e : Evidence). IfOk c.found.result (MakesLowTo e c.args.style c.args.inputs.now c.args.stem.now)) (found_kind c.args.evidence c.args.inputs.now c.in-Found.row c.in-Found.certificate is) c.found.ensures

pub open_end-requires-clause-name : goal.open_end-requires-clause-name
open_end-requires-clause-name c = inside_named c.args.inputs.now (inputs_of c.inputs.inside.tech c.inputs.inside.cell c.inputs.inside.fingers) c.inputs.view_is c.show_limits.ensures

pub open_end-requires-clause-fits : goal.open_end-requires-clause-fits
open_end-requires-clause-fits c =
    let spent : IsOpenBy c.args.evidence c.args.inputs.now c.in-Open.proved c.in-Open.certificate = subst (IsSearched c.args.evidence c.args.inputs.now) c.in-Open.is c.in_ok-searched.ensures in
    open_fits c.args.evidence c.args.inputs.now c.in-Open.proved c.in-Open.certificate spent

pub returns-in-Open : goal.returns-in-Open
returns-in-Open c =
    let spent : IsOpenBy c.args.evidence c.args.inputs.now c.in-Open.proved c.in-Open.certificate = subst (IsSearched c.args.evidence c.args.inputs.now) c.in-Open.is c.in_ok-searched.ensures in
    open_low c.args.evidence c.args.style c.args.inputs.now (inputs_of c.inputs.inside.tech c.inputs.inside.cell c.inputs.inside.fingers) c.args.stem.now c.in-Open.proved c.in-Open.certificate c.open_end.result
    c.inputs.view_is spent c.open_end.ensures

pub returns-in-Crowded : goal.returns-in-Crowded
returns-in-Crowded c =
    let crowded : Crowds c.args.evidence c.args.inputs.now c.in-Crowded.gate = subst (IsSearched c.args.evidence c.args.inputs.now) c.in-Crowded.is c.in_ok-searched.ensures in
    crowded_low c.args.evidence c.args.style c.args.inputs.now (inputs_of c.inputs.inside.tech c.inputs.inside.cell c.inputs.inside.fingers) c.args.stem.now c.in-Crowded.gate c.too_many_pairings.result
    c.inputs.view_is crowded c.too_many_pairings.ensures
