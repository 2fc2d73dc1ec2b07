use Rattle.file_laws.proofs.LefWhole.{plain_abstract, tapped_abstract}
use Rattle.file_laws.proofs.lef_laws.agreeing_abstracts.Goals as goal

pub returns-clause-plain : goal.returns-clause-plain
returns-clause-plain c = plain_abstract

pub returns-clause-tapped : goal.returns-clause-tapped
returns-clause-tapped c = tapped_abstract
