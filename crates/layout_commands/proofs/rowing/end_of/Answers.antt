use Rattle.std.proofs.Common.{subst}
use Rattle.cell_make.specs.Rowed.{ComesToRow}
use Rattle.cell_make.specs.declared.row_outcome.RowOutcome.TheVariants as outcome
use Rattle.layout_commands.proofs.RowEnds.{can_be_told, refused_to, rowed_to, stopped_to, unabutted_to}
use Rattle.layout_commands.proofs.rowing.end_of.Goals as goal

pub stopped-requires : goal.stopped-requires
stopped-requires c =
    let comes : ComesToRow c.args.row.now (outcome.Stopped c.in-Stopped.inputs c.in-Stopped.why) = subst (ComesToRow c.args.row.now) c.in-Stopped.is c.requires in
    can_be_told c.args.row.now.choice c.in-Stopped.inputs c.in-Stopped.why comes.1 comes.2.stops comes.3

pub returns-in-Rowed : goal.returns-in-Rowed
returns-in-Rowed c =
    let comes : ComesToRow c.args.row.now (outcome.Rowed c.in-Rowed.library c.in-Rowed.width c.in-Rowed.height) = subst (ComesToRow c.args.row.now) c.in-Rowed.is c.requires in
    rowed_to c.args.row.now c.args.stem.now comes.0 c.in-Rowed.library c.in-Rowed.width c.in-Rowed.height c.rowed.result comes.1 comes.2 c.rowed.ensures

pub returns-in-Refused : goal.returns-in-Refused
returns-in-Refused c =
    let comes : ComesToRow c.args.row.now (outcome.Refused c.in-Refused.fault) = subst (ComesToRow c.args.row.now) c.in-Refused.is c.requires in
    refused_to c.args.row.now c.args.stem.now comes.0 comes.1 c.in-Refused.fault c.refused.result comes.2 c.refused.ensures

pub returns-in-Stopped : goal.returns-in-Stopped
returns-in-Stopped c =
    let comes : ComesToRow c.args.row.now (outcome.Stopped c.in-Stopped.inputs c.in-Stopped.why) = subst (ComesToRow c.args.row.now) c.in-Stopped.is c.requires in
    stopped_to c.args.row.now c.args.stem.now comes.0 c.in-Stopped.inputs comes.1 c.stopped.result comes.2 (c.stopped.ensures comes.1 comes.3)

pub returns-in-Unabutted : goal.returns-in-Unabutted
returns-in-Unabutted c =
    let comes : ComesToRow c.args.row.now (outcome.Unabutted c.in-Unabutted.fault) = subst (ComesToRow c.args.row.now) c.in-Unabutted.is c.requires in
    unabutted_to c.args.row.now c.args.stem.now comes.0 c.in-Unabutted.fault c.unabutted.result comes.1 c.unabutted.ensures
