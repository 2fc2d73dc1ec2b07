use Rattle.std.proofs.Common.{subst, sym}
use Rattle.row_model.specs.Arrangement.{IsArrangement}
use Rattle.cell_inputs.specs.Inputs.{Inputs, inputs_of}
use Rattle.cell_commands.proofs.Arranged.{row_of}
use Rattle.cell_commands.proofs.Lows.{lists_instead}
use Rattle.cell_commands.proofs.relisted.relisted.Goals as goal

pub list_best-requires : goal.list_best-requires
list_best-requires c = row_of c.inputs.inside.fingers c.in_ok-kinds.kinds c.args.row.now c.in_ok-kinds.ensures.kinds (subst (λ (i : Inputs). IsArrangement c.args.row.now i.fingers) (sym c.inputs.view_is) c.requires.arranged)

pub returns : goal.returns
returns c =
    lists_instead (inputs_of c.inputs.inside.tech c.inputs.inside.cell c.inputs.inside.fingers) c.args.inputs.now c.args.row.now c.args.certificate c.listing.result c.in_ok-kinds.kinds c.in_ok-best.best
    c.inputs.view_is c.in_ok-kinds.ensures.kinds c.in_ok-kinds.ensures.sound c.in_ok-best.ensures c.listing.ensures
