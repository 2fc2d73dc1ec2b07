use Rattle.std.proofs.Common.{rules}
use Rattle.cell_commands.proofs.MakeEnds.{drawn_left}
use Rattle.cell_commands.proofs.make_end.drawn_files.Goals as goal

pub returns : goal.returns
returns c = drawn_left c.args.files c.push-2.new.self c.args.parts.library c.args.parts.summary c.args.parts.report c.makes.result (search rules) c.makes.ensures
