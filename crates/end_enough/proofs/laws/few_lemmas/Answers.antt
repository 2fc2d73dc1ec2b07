use Rattle.end_enough.proofs.Few.{count, units}
use Rattle.end_enough.proofs.laws.few_lemmas.Goals as goal

pub returns-clause-count : goal.returns-clause-count
returns-clause-count g c = count (g.E.EndSteps.steps c.args._steps.now)

pub returns-clause-units : goal.returns-clause-units
returns-clause-units g c = units (g.E.EndSteps.steps c.args._steps.now)
