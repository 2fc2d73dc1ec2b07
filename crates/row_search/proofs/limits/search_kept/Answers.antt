use Rattle.row_search.proofs.Promised.{promised}
use Rattle.row_search.proofs.limits.search_kept.Goals as goal

pub returns-clause-row : goal.returns-clause-row
returns-clause-row g c = (promised (g.B.RowBound.value c.args.bound.now) (g.B.RowBound.version_of c.args.bound.now) c.in_ok-kinds.kinds c.args.fingers.now c.args.budget c.search_task.result (λ row s valid. g.met.B.RowBound.holds c.args.bound.now row s c.in_ok-kinds.kinds c.in_ok-kinds.ensures.sound valid) c.in_ok-kinds.ensures.kinds c.in_ok-kinds.ensures.sound (g.met.B.RowBound.known c.args.bound.now) c.search_task.ensures.found c.search_task.ensures.stopped).row

pub returns-clause-solved : goal.returns-clause-solved
returns-clause-solved g c = (promised (g.B.RowBound.value c.args.bound.now) (g.B.RowBound.version_of c.args.bound.now) c.in_ok-kinds.kinds c.args.fingers.now c.args.budget c.search_task.result (λ row s valid. g.met.B.RowBound.holds c.args.bound.now row s c.in_ok-kinds.kinds c.in_ok-kinds.ensures.sound valid) c.in_ok-kinds.ensures.kinds c.in_ok-kinds.ensures.sound (g.met.B.RowBound.known c.args.bound.now) c.search_task.ensures.found c.search_task.ensures.stopped).solved

pub returns-clause-nodes : goal.returns-clause-nodes
returns-clause-nodes g c = (promised (g.B.RowBound.value c.args.bound.now) (g.B.RowBound.version_of c.args.bound.now) c.in_ok-kinds.kinds c.args.fingers.now c.args.budget c.search_task.result (λ row s valid. g.met.B.RowBound.holds c.args.bound.now row s c.in_ok-kinds.kinds c.in_ok-kinds.ensures.sound valid) c.in_ok-kinds.ensures.kinds c.in_ok-kinds.ensures.sound (g.met.B.RowBound.known c.args.bound.now) c.search_task.ensures.found c.search_task.ensures.stopped).nodes

pub returns-clause-spent : goal.returns-clause-spent
returns-clause-spent g c = (promised (g.B.RowBound.value c.args.bound.now) (g.B.RowBound.version_of c.args.bound.now) c.in_ok-kinds.kinds c.args.fingers.now c.args.budget c.search_task.result (λ row s valid. g.met.B.RowBound.holds c.args.bound.now row s c.in_ok-kinds.kinds c.in_ok-kinds.ensures.sound valid) c.in_ok-kinds.ensures.kinds c.in_ok-kinds.ensures.sound (g.met.B.RowBound.known c.args.bound.now) c.search_task.ensures.found c.search_task.ensures.stopped).spent
