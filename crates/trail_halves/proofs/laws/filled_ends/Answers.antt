use Rattle.trail_halves.proofs.Filled.{half_ends_le}
use Rattle.trail_halves.proofs.laws.filled_ends.Goals as goal

pub returns : goal.returns
returns c = half_ends_le
