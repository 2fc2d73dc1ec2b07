use Rattle.std.proofs.Common.{ap, subst, sym, ◌∙◌, ◌++◌}
use Rattle.row_cycles.specs.Above.{HasCycle, above_end}
use Rattle.row_cycles.proofs.Nets.{both_nets, end_nets}
use Rattle.cycle_search.proofs.ahead.ends_in_cycle.Goals as goal

pub has_cycle-requires : goal.has_cycle-requires
has_cycle-requires g c = record { nets = both_nets c.args.task.now.kinds.now c.args.asked.now.pairs (above_end c.args.task.now.pins.now c.args.at.now.state) c.as_slice.result.now c.show_limits.ensures c.requires.asked.few (end_nets c.args.task.now.pins.now c.args.task.now.kinds.now c.args.at.now.state c.requires.numbered.valid) (c.as_slice.ensures ∙ c.in_ok-all.ensures ∙ ap (λ ps. c.args.asked.now.pairs ++ ps) c.requires.new) }

pub returns : goal.returns
returns g c = (
  λ e. subst HasCycle (c.as_slice.ensures ∙ c.in_ok-all.ensures ∙ ap (λ ps. c.args.asked.now.pairs ++ ps) c.requires.new) (c.has_cycle.ensures.0 e),
  λ cycle. c.has_cycle.ensures.1 (subst HasCycle (sym (c.as_slice.ensures ∙ c.in_ok-all.ensures ∙ ap (λ ps. c.args.asked.now.pairs ++ ps) c.requires.new)) cycle),
)
