use Rattle.cell_commands.specs.Relisted.{kind_of}
use Rattle.cell_commands.proofs.Lows.{first_least, found_first}
use Rattle.cell_commands.proofs.low.found.Goals as goal

pub of-requires : goal.of-requires
of-requires c = first_least c.args.inputs.now c.args.least.now (found_first (kind_of c.args.gaps) c.args.inputs.now c.args.least.now c.args.gaps c.requires)
