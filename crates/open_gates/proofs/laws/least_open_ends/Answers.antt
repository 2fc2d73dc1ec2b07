use Rattle.open_gates.proofs.Law.{open_law}
use Rattle.open_gates.proofs.laws.least_open_ends.Goals as goal

pub returns : goal.returns
returns c = open_law
