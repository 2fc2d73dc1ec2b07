use Rattle.fewer_fingers.proofs.Counts.{few_columns, staying_fingers}
use Rattle.fewer_fingers.proofs.Law.{fewer_law}
use Rattle.fewer_fingers.proofs.laws.fewer_gaps.Goals as goal

pub returns-clause-fingers : goal.returns-clause-fingers
returns-clause-fingers c = staying_fingers

pub returns-clause-columns : goal.returns-clause-columns
returns-clause-columns c f ok out = few_columns out f

pub returns-clause-law : goal.returns-clause-law
returns-clause-law c = fewer_law
