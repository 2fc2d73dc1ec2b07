use Rattle.trail_pools.proofs.AllListed.{all_open_choices}
use Rattle.trail_pools.proofs.laws.all_open_choices.Goals as goal

pub returns : goal.returns
returns c = λ f ok r counted gate within choice. all_open_choices f ok r gate within counted choice
