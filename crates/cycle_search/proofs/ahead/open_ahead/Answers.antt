use Rattle.std.proofs.Common.{inr}
use Rattle.cycle_search.specs.Visit.{IsOpen}
use Rattle.cycle_search.proofs.Needs.{adds_on}
use Rattle.cycle_search.proofs.Visited.{open_covered}
use Rattle.cycle_search.proofs.ahead.open_ahead.Goals as goal

pub returns-in_default-clause-none : goal.returns-in_default-clause-none
returns-in_default-clause-none g c = (rw c.in_default.is at c.in_ok-ahead.ensures.none) c.args.known.now.lemmas.now

pub returns-then-branch-clause-adds : goal.returns-then-branch-clause-adds
returns-then-branch-clause-adds g c = adds_on c.args.asked.now.pairs c.args.need.now c.reached.new.need c.add_known.new.need c.in_ok-ahead.ensures.adds c.in_ok-add_known.ensures.adds

pub returns-then-branch-clause-none : goal.returns-then-branch-clause-none
returns-then-branch-clause-none g c =
    let open' : IsOpen c.args.task.now.pins.now c.args.task.now.kinds.now c.args.at.now.state c.args.asked.now.pairs c.args.left c.args.next.now.step c.in-Some.ahead = rw c.in-Some.is at c.in_ok-ahead.ensures.some in
    inr (inr (open_covered c.args.task.now.pins.now c.args.task.now.kinds.now c.args.at.now.state c.args.asked.now.pairs c.args.left c.args.next.now.step c.in-Some.ahead c.add_known.new.need c.args.known.now.lemmas.now open' (c.in_ok-add_known.ensures.covers c.if-branch.true)))

pub returns-clause-adds : goal.returns-clause-adds
returns-clause-adds g c = adds_on c.args.asked.now.pairs c.args.need.now c.reached.new.need c.add_known.new.need c.in_ok-ahead.ensures.adds c.in_ok-add_known.ensures.adds

pub returns-clause-some : goal.returns-clause-some
returns-clause-some g c = rw c.in-Some.is at c.in_ok-ahead.ensures.some
