use Rattle.end_lemmas.proofs.Sound.{all_true}
use Rattle.end_lemmas.proofs.laws.true_lemmas.Goals as goal

pub returns : goal.returns
returns g c = all_true (g.E.EndSteps.steps c.args._steps.now)
