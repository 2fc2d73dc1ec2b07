use Rattle.end_lemmas.proofs.Sound.{ends_true}
use Rattle.end_lemmas.proofs.laws.proved_ends.Goals as goal

pub returns : goal.returns
returns g c = ends_true (g.E.EndSteps.steps c.args._steps.now)
