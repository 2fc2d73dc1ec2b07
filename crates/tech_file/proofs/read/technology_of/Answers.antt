use Rattle.tech_file.proofs.Limits.{limits_hold}
use Rattle.tech_file.proofs.read.technology_of.Goals as goal
use Rattle.std.proofs.Common.{rules}
use Rattle.toml.specs.View.{table_view}

pub invariant_of-result : goal.invariant_of-result
invariant_of-result c = limits_hold (table_view c.args.table.now) _ (search rules)
