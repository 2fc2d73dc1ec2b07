use Rattle.trail_halves.proofs.Without.{half_ends_are}
use Rattle.trail_halves.proofs.laws.no_halves.Goals as goal

pub returns : goal.returns
returns c = half_ends_are
