use Rattle.bench_command.proofs.Searched.{never_spent}
use Rattle.bench_command.proofs.cell_laws.paired_are_searched.Goals as goal

pub returns : goal.returns
returns c = never_spent
