use Rattle.cycle_search.proofs.search.search_task.Goals as goal

pub search_start-requires-clause-noted : goal.search_start-requires-clause-noted
search_start-requires-clause-noted g c = c.new-progress.ensures.noted c.args.task.now.kinds.now
