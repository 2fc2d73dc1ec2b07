use Rattle.std.proofs.Common.{All, ap, subst, sym, ◌++◌, ◌∙◌}
use Rattle.track_ways.specs.Paths.{lines_to}
use Rattle.row_cycles.specs.Above.{HasNets, above_of}
use Rattle.row_cycles.proofs.Nets.{step_nets}
use Rattle.cycle_search.proofs.ahead.new_pairs.Goals as goal

pub returns-clause-is : goal.returns-clause-is
returns-clause-is g c = c.in_ok-add_step.ensures ∙ ap (λ ps. ps ++ above_of c.args.task.now.pins.now (lines_to c.args.at.now.state c.args.next.now.column)) c.new-new.ensures ∙ ap (λ column. above_of c.args.task.now.pins.now (lines_to c.args.at.now.state column)) c.requires.next.column

pub returns-clause-nets : goal.returns-clause-nets
returns-clause-nets g c = subst (All (HasNets c.args.task.now.kinds.now.nets)) (sym (c.in_ok-add_step.ensures ∙ ap (λ ps. ps ++ above_of c.args.task.now.pins.now (lines_to c.args.at.now.state c.args.next.now.column)) c.new-new.ensures ∙ ap (λ column. above_of c.args.task.now.pins.now (lines_to c.args.at.now.state column)) c.requires.next.column)) (step_nets c.args.task.now.pins.now c.args.task.now.kinds.now c.args.at.now.state c.args.next.now.step c.show_limits.ensures c.requires.numbered.valid)
