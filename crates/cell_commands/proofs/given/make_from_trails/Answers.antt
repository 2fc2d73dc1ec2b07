use Rattle.call_words.specs.declared.evidence.Evidence.TheVariants.{Trails}
use Rattle.cell_commands.proofs.GivenRows.{given_arranges, makes_from}
use Rattle.cell_commands.proofs.given.make_from_trails.Goals as goal

pub given_end-requires : goal.given_end-requires
given_end-requires c = given_arranges Trails c.args.inputs.now c.args.bytes.now c.in_ok-given.given c.in_ok-given.ensures

pub returns : goal.returns
returns c = makes_from Trails c.args.style c.args.inputs.now c.args.bytes.now c.args.stem.now c.in_ok-given.given c.given_end.result c.in_ok-given.ensures c.given_end.ensures
