use Rattle.std.proofs.Common.{ap, subst, ◌∙◌, ◌++◌}
use Rattle.std.proofs.lemmas.Bool.{both_ways}
use Rattle.row_cycles.specs.Above.{HasCycle, above_end}
use Rattle.cycle_search.proofs.Needs.{adds_none, adds_on, adds_some, all_follow_self, cycle_all}
use Rattle.cycle_search.proofs.ahead.ends.Goals as goal

pub returns-then-has_fingers-clause-adds : goal.returns-then-has_fingers-clause-adds
returns-then-has_fingers-clause-adds g c = adds_none c.args.asked.now.pairs c.args.need.now

pub returns-then-has_fingers-clause-no : goal.returns-then-has_fingers-clause-no
returns-then-has_fingers-clause-no g c = λ e none. absurd (none ((c.has_fingers.ensures c.args.task.now.kinds.now c.requires.numbered.valid).0 c.if-has_fingers.true))

pub ends_in_cycle-requires-clause-new : goal.ends_in_cycle-requires-clause-new
ends_in_cycle-requires-clause-new g c = (c.as_slice.ensures ∙ c.in_ok-add_end.ensures ∙ ap (λ ps. ps ++ above_end c.args.task.now.pins.now c.args.at.now.state) c.new-new.ensures)

pub returns-then-not-branch-clause-adds : goal.returns-then-not-branch-clause-adds
returns-then-not-branch-clause-adds g c = adds_none c.args.asked.now.pairs c.args.need.now

pub returns-then-not-branch-clause-yes : goal.returns-then-not-branch-clause-yes
returns-then-not-branch-clause-yes g c = λ e. record {
  none = λ has. both_ways c.has_fingers.result c.if-has_fingers.false ((c.has_fingers.ensures c.args.task.now.kinds.now c.requires.numbered.valid).1 has);
  free = λ cycle. both_ways _ c.if-not-branch.true (c.in_ok-ends_in_cycle.ensures.1 cycle);
}

pub returns-then-branch-clause-no : goal.returns-then-branch-clause-no
returns-then-branch-clause-no g c = λ e none. subst (λ ps. HasCycle (c.add_cycle.new.need ++ ps)) (c.as_slice-2.ensures ∙ c.in_ok-add_end.ensures ∙ ap (λ ps. ps ++ above_end c.args.task.now.pins.now c.args.at.now.state) c.new-new.ensures) (c.in_ok-add_cycle.ensures.cycle c.if-branch.true)

pub returns-clause-adds : goal.returns-clause-adds
returns-clause-adds g c = adds_on c.args.asked.now.pairs c.args.need.now c.add_cycle.new.need c.extend.new.self c.in_ok-add_cycle.ensures.adds
    (adds_some c.args.asked.now.pairs c.add_cycle.new.need c.extend.new.self c.args.asked.now.pairs (c.in_ok-extend.ensures.ok ∙ ap (λ ps. c.add_cycle.new.need ++ ps) c.as_slice-3.ensures) (all_follow_self c.args.asked.now.pairs))

pub returns-clause-no : goal.returns-clause-no
returns-clause-no g c = λ e none. cycle_all c.args.asked.now.pairs c.add_cycle.new.need c.extend.new.self (above_end c.args.task.now.pins.now c.args.at.now.state) (c.in_ok-extend.ensures.ok ∙ ap (λ ps. c.add_cycle.new.need ++ ps) c.as_slice-3.ensures) (c.in_ok-ends_in_cycle.ensures.0 c.if-not-branch.false)
