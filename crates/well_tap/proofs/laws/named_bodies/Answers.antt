use Rattle.well_tap.proofs.BodyNames.{bodies_named}
use Rattle.well_tap.proofs.laws.named_bodies.Goals as goal

pub returns : goal.returns
returns c = bodies_named
