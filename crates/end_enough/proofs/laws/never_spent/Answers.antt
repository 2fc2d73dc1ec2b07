use Rattle.end_enough.proofs.Few.{never, never_of, spends_few}
use Rattle.end_enough.proofs.Led.{all_states, number}
use Rattle.end_enough.proofs.laws.never_spent.Goals as goal

pub returns-clause-left : goal.returns-clause-left
returns-clause-left g c = spends_few (g.E.EndSteps.steps c.args._steps.now)

pub returns-clause-listed : goal.returns-clause-listed
returns-clause-listed g c = never (g.E.EndSteps.steps c.args._steps.now)

pub returns-clause-all : goal.returns-clause-all
returns-clause-all g c = all_states (g.E.EndSteps.steps c.args._steps.now)

pub returns-clause-number : goal.returns-clause-number
returns-clause-number g c = number (g.E.EndSteps.steps c.args._steps.now)

pub returns-clause-ends : goal.returns-clause-ends
returns-clause-ends g c = never_of (g.E.EndSteps.steps c.args._steps.now)
