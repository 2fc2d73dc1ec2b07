use Rattle.cell_commands.proofs.GivenRows.{all_make_from}
use Rattle.cell_commands.proofs.given.make_from_log.Goals as goal

pub returns : goal.returns
returns c = all_make_from c.args.style c.args.inputs.now c.args.log.now.reader c.args.log.now.checker c.args.stem.now c.in_ok-given.given c.given_end.result c.in_ok-given.ensures.given c.given_end.ensures
