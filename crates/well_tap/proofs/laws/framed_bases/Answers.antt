use Rattle.well_tap.proofs.Drawn.{framed_base}
use Rattle.well_tap.proofs.laws.framed_bases.Goals as goal

pub returns : goal.returns
returns c = framed_base
