use Rattle.scmos_rules.specs.Conditions.{Marked}
use Rattle.scmos_rules.proofs.Around.{away, away_of}
use Rattle.scmos_rules.proofs.laws.away_law.Goals as goal

pub returns-clause-covered : goal.returns-clause-covered
returns-clause-covered c = away

pub returns-clause-marked : goal.returns-clause-marked
returns-clause-marked c = λ p q. away_of (Marked p) (Marked q)
