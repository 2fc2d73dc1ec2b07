use Rattle.std.proofs.Common.{rules}
use Rattle.cell_commands.proofs.Sides.{is_found, is_number}
use Rattle.cell_commands.proofs.side.number_of.Goals as goal

pub unreachable-requires : goal.unreachable-requires
unreachable-requires c = is_found c.args.row c.args.kinds.now c.args.finger.now c.requires.kind (search rules)

pub returns : goal.returns
returns c = (is_number c.args.row c.args.kinds.now c.args.finger.now c.in-Some.at (search rules)).1
