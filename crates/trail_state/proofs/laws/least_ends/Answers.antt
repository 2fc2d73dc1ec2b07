use Rattle.trail_state.proofs.Law.{levels_law}
use Rattle.trail_state.proofs.laws.least_ends.Goals as goal

pub returns : goal.returns
returns c = levels_law
