use Rattle.cell_commands.proofs.MakeEnds.{end_left}
use Rattle.cell_commands.proofs.make_end.evidence_end.Goals as goal

pub returns : goal.returns
returns c = end_left c.args.status c.args.files c.args.report c.makes.result c.makes.ensures
