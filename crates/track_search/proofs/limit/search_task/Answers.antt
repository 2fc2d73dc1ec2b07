use Rattle.track_search.proofs.limit.search_task.Goals as goal

pub search_start-requires-clause-noted : goal.search_start-requires-clause-noted
search_start-requires-clause-noted g c = c.new-progress.ensures.noted (g.B.RowBound.value c.args.task.now.bound.now) c.args.task.now.pins.now c.args.task.now.limit c.args.task.now.kinds.now
