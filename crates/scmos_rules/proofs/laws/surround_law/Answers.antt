use Rattle.scmos_rules.specs.Conditions.{Marked}
use Rattle.scmos_rules.proofs.Around.{surround, surround_of}
use Rattle.scmos_rules.proofs.laws.surround_law.Goals as goal

pub returns-clause-covered : goal.returns-clause-covered
returns-clause-covered c = surround

pub returns-clause-marked : goal.returns-clause-marked
returns-clause-marked c = λ p q. surround_of (Marked p) (Marked q)
