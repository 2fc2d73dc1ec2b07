use Rattle.row_search.proofs.limits.search_task.Goals as goal

pub try_limits-ended-requires-clause-noted : goal.try_limits-ended-requires-clause-noted
try_limits-ended-requires-clause-noted g c = c.new-trails.ensures (g.B.RowBound.trails_of c.args.task.now.bound.now) c.args.task.now.kinds.now
