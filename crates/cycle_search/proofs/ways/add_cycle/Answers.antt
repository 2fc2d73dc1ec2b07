use Rattle.std.proofs.Common.{ap, ◌∙◌, ◌++◌}
use Rattle.cycle_search.specs.Ways.{Closes}
use Rattle.cycle_search.proofs.Needs.{adds_none, adds_some, cycle_added}
use Rattle.cycle_search.proofs.ways.add_cycle.Goals as goal

pub returns-in_default-clause-adds : goal.returns-in_default-clause-adds
returns-in_default-clause-adds c = adds_none c.args.asked.now.pairs c.args.need.now

pub returns-clause-adds : goal.returns-clause-adds
returns-clause-adds c =
    let closes : Closes c.args.asked.now.pairs c.args.new.now c.in-Some.pairs = rw c.in-Some.is at c.in_ok-pairs.ensures in
    adds_some c.args.asked.now.pairs c.args.need.now c.extend.new.self c.in-Some.pairs (c.in_ok-extend.ensures.ok ∙ ap (λ ps. c.args.need.now ++ ps) c.as_slice.ensures) closes.follow

pub returns-clause-cycle : goal.returns-clause-cycle
returns-clause-cycle c = λ e.
    let closes : Closes c.args.asked.now.pairs c.args.new.now c.in-Some.pairs = rw c.in-Some.is at c.in_ok-pairs.ensures in
    cycle_added c.args.asked.now.pairs c.args.need.now c.in-Some.pairs c.extend.new.self c.args.new.now (c.in_ok-extend.ensures.ok ∙ ap (λ ps. c.args.need.now ++ ps) c.as_slice.ensures) closes
