use Rattle.std.proofs.Common.{rules}
use Rattle.part_tests.proofs.Inverter.{many_columns, many_widths}
use Rattle.part_tests.proofs.bases.wide.Goals as goal

pub returns-clause-columns : goal.returns-clause-columns
returns-clause-columns c = many_columns c.extend.new.self (search rules)

pub returns-clause-widths : goal.returns-clause-widths
returns-clause-widths c = many_widths c.extend.new.self (search rules)
