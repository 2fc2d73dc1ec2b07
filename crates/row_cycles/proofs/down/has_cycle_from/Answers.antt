use Rattle.std.proofs.Common.{◌-◌, Any, drop, length, subst, sym, take}
use Rattle.row_cycles.specs.declared.above.NetAbove.{NetAbove}
use Rattle.row_cycles.specs.Above.{IsAbove}
use Rattle.row_cycles.proofs.Found.{cycle_after, pair_cycle, rest_is}
use Rattle.row_cycles.proofs.down.has_cycle_from.Goals as goal

pub returns : goal.returns
returns c = (
  λ e. pair_cycle c.args.above.now (take (length c.args.above.now - c.args.from) (drop c.args.from c.args.above.now)) (c.some_leads_back.ensures.0 e),
  λ cycle. c.some_leads_back.ensures.1 (subst (Any (λ (a : NetAbove). IsAbove c.args.above.now a.upper a.upper)) (sym (rest_is c.args.above.now c.args.from)) (cycle_after c.args.above.now c.args.from c.requires.first cycle)),
)
