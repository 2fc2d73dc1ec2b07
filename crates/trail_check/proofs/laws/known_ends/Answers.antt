use Rattle.trail_check.proofs.Certain.{fewer_ends, known_ends}
use Rattle.trail_check.proofs.laws.known_ends.Goals as goal

pub returns-clause-all : goal.returns-clause-all
returns-clause-all c = known_ends

pub returns-clause-some : goal.returns-clause-some
returns-clause-some c = fewer_ends
