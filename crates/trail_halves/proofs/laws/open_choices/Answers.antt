use Rattle.trail_halves.proofs.Opened.{open_choices}
use Rattle.trail_halves.proofs.laws.open_choices.Goals as goal

pub returns : goal.returns
returns c = open_choices
