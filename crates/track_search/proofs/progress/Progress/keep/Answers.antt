use Rattle.track_search.specs.Visit.{kept_at}
use Rattle.track_search.proofs.Grown.{cut_on}
use Rattle.track_search.proofs.progress.Progress.keep.Goals as goal

pub returns-in-Err-clause-spent : goal.returns-in-Err-clause-spent
returns-in-Err-clause-spent g c = λ e. cut_on c.args.task.now.budget (kept_at c.args.task.now.kinds.now.nets c.args.at.now.state c.args.gaps) c.args.ways.now c.loop-way.way-index c.way-item.result c.args.self.now.lemmas c.loop-way.self.lemmas c.keep_one.new.self.lemmas c.way-item.is c.loop-way-test.true c.loop-way.invariant.0 (c.in-Err.ensures.spent e)
