use Rattle.row_cycles.proofs.Found.{cycle_pair, pair_cycle}
use Rattle.row_cycles.proofs.down.has_cycle.Goals as goal

pub returns : goal.returns
returns c = (
  λ e. pair_cycle c.args.above.now c.args.above.now (c.some_leads_back.ensures.0 e),
  λ cycle. c.some_leads_back.ensures.1 (cycle_pair c.args.above.now cycle),
)
