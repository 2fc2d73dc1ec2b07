use Rattle.row_cycles.proofs.Loops.{yes_from}
use Rattle.track_search.proofs.Bare.{more_by_n, more_by_p}
use Rattle.track_search.proofs.known.needs_more.Goals as goal

pub returns-then-p-clause-more : goal.returns-then-p-clause-more
returns-then-p-clause-more g c = yes_from (more_by_p (g.B.RowBound.value c.args.task.now.bound.now) c.args.task.now.kinds.now c.args.state.now c.args.gaps c.in_ok-p.p c.in_ok-p.ensures.more c.if-p.true)

pub returns-clause-more : goal.returns-clause-more
returns-clause-more g c = more_by_n (g.B.RowBound.value c.args.task.now.bound.now) c.args.task.now.kinds.now c.args.state.now c.args.gaps c.in_ok-p.p c.in_ok-n.n c.in_ok-p.ensures.more c.if-p.false c.in_ok-n.ensures.more
