use Rattle.std.proofs.Common.{subst}
use Rattle.cell_inputs.specs.Inputs.{inputs_of}
use Rattle.cell_make.specs.CellOfRow.{TellsWhy}
use Rattle.cell_make.specs.declared.row_outcome.Undrawn.{Undrawn}
use Rattle.layout_commands.proofs.RowEnds.{cyclic_stops, spent_stops, tall_stops, unwired_stops}
use Rattle.layout_commands.specs.Row.{CanBeTold}
use Rattle.layout_commands.proofs.rowing.stopped.Goals as goal

pub log_unfinished-requires-clause-fits : goal.log_unfinished-requires-clause-fits
log_unfinished-requires-clause-fits c = subst CanBeTold c.in-Unfinished.is c.requires

pub returns-in-Cyclic : goal.returns-in-Cyclic
returns-in-Cyclic c = λ answer told.
    cyclic_stops c.args.inputs.now (inputs_of c.inputs.inside.tech c.inputs.inside.cell c.inputs.inside.fingers) c.in-Cyclic.ring c.cyclic.result answer c.inputs.view_is c.cyclic.ensures
    (subst (λ (w : Undrawn). TellsWhy c.args.inputs.now w answer) c.in-Cyclic.is told)

pub returns-in-Tall : goal.returns-in-Tall
returns-in-Tall c = λ answer told.
    tall_stops c.args.inputs.now c.in-Tall.needed c.in-Tall.given c.tall.result answer c.tall.ensures
    (subst (λ (w : Undrawn). TellsWhy c.args.inputs.now w answer) c.in-Tall.is told)

pub returns-in-Unfinished : goal.returns-in-Unfinished
returns-in-Unfinished c = λ answer told.
    spent_stops c.args.inputs.now (inputs_of c.inputs.inside.tech c.inputs.inside.cell c.inputs.inside.fingers) c.in-Unfinished.proved c.in-Unfinished.log c.log_unfinished.result answer c.inputs.view_is c.log_unfinished.ensures
    (subst (λ (w : Undrawn). TellsWhy c.args.inputs.now w answer) c.in-Unfinished.is told)

pub returns-in-Unwired : goal.returns-in-Unwired
returns-in-Unwired c = λ answer told.
    unwired_stops c.args.inputs.now (inputs_of c.inputs.inside.tech c.inputs.inside.cell c.inputs.inside.fingers) c.in-Unwired.ring c.unwired.result answer c.inputs.view_is c.unwired.ensures
    (subst (λ (w : Undrawn). TellsWhy c.args.inputs.now w answer) c.in-Unwired.is told)
