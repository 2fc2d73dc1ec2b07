use Rattle.trail_check.proofs.Law.{fewest_gaps}
use Rattle.trail_check.proofs.laws.fewest_gaps.Goals as goal

pub returns : goal.returns
returns c = fewest_gaps
