use Rattle.bench_command.proofs.Firsts.{one_first}
use Rattle.bench_command.proofs.cell_laws.one_first_least.Goals as goal

pub returns : goal.returns
returns c = one_first
