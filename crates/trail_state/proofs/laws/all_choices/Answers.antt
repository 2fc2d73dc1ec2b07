use Rattle.trail_state.proofs.Built.{all_choices}
use Rattle.trail_state.proofs.laws.all_choices.Goals as goal

pub returns : goal.returns
returns c = all_choices
