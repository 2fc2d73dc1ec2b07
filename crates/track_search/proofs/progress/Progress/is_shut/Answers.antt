use Rattle.std.proofs.lemmas.Bool.{both_ways}
use Rattle.track_search.proofs.Bare.{not_shut, shut_closed, shut_too_few}
use Rattle.track_search.proofs.progress.Progress.is_shut.Goals as goal

pub returns-then-is_up_to-clause-yes : goal.returns-then-is_up_to-clause-yes
returns-then-is_up_to-clause-yes g c = λ s state code t. shut_closed (g.B.RowBound.value c.args.task.now.bound.now) c.args.task.now.kinds.now c.args.self.now.lemmas c.args.self.now.known s c.args.gaps c.args.number c.at-known.result state code c.requires.noted.bare c.at-known.ensures (c.is_up_to.ensures.0 c.if-is_up_to.true)

pub returns-else-is_up_to-clause-yes : goal.returns-else-is_up_to-clause-yes
returns-else-is_up_to-clause-yes g c = λ s state code t. shut_too_few (g.B.RowBound.value c.args.task.now.bound.now) c.args.task.now.kinds.now c.args.self.now.lemmas c.args.self.now.known s c.args.gaps c.args.number c.at-known.result state code c.requires.noted.too_few c.at-known.ensures (c.is_up_to-else-is_up_to.ensures.0 t)

pub returns-else-is_up_to-clause-no : goal.returns-else-is_up_to-clause-no
returns-else-is_up_to-clause-no g c = λ s state code f. not_shut c.args.task.now.kinds.now c.args.self.now.lemmas c.args.self.now.known s c.args.gaps c.args.number c.at-known.result state code c.requires.noted.bare c.at-known.ensures (λ up. both_ways c.is_up_to.result c.if-is_up_to.false (c.is_up_to.ensures.1 up))
