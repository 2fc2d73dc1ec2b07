use Rattle.well_tap.proofs.Drawn.{rails_drawn}
use Rattle.well_tap.proofs.laws.drawn_rails.Goals as goal

pub returns : goal.returns
returns c = rails_drawn
