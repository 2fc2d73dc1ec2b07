use Rattle.scmos_rules.proofs.Spacings.{spacing, spacing_by_touch}
use Rattle.scmos_rules.proofs.laws.spacing_law.Goals as goal

pub returns-clause-joined : goal.returns-clause-joined
returns-clause-joined c = spacing

pub returns-clause-touching : goal.returns-clause-touching
returns-clause-touching c = spacing_by_touch
