use Rattle.std.proofs.Common.{subst, sym}
use Rattle.row_state.specs.Start.{IsState}
use Rattle.row_cycles.proofs.Nets.{few_nets}
use Rattle.cycle_search.proofs.Visited.{same_nets}
use Rattle.cycle_search.proofs.visit.lemma_of.Goals as goal

pub in_order-requires : goal.in_order-requires
in_order-requires g c = record { nets = few_nets c.args.task.now.kinds.now c.args.above.now c.show_limits.ensures c.requires.nets }

pub returns-clause-within : goal.returns-clause-within
returns-clause-within g c = record {
  state = subst (IsState c.args.task.now.kinds.now) (sym c.in_ok-state.ensures) c.requires.numbered.valid;
  gaps = c.requires.gaps;
  nets = same_nets c.args.task.now.kinds.now.nets c.args.above.now c.in_ok-above.above c.in_ok-above.ensures.same c.requires.nets;
  order = c.in_ok-above.ensures.order;
}
