use Rattle.cycle_search.proofs.Needs.{adds_none, adds_on}
use Rattle.cycle_search.proofs.needed.add_known.Goals as goal

pub loop-place-init : goal.loop-place-init
loop-place-init c = adds_none c.args.asked.now.pairs c.args.need.now

pub returns-then-branch-clause-adds : goal.returns-then-branch-clause-adds
returns-then-branch-clause-adds c = adds_on c.args.asked.now.pairs c.args.need.now c.loop-place.need c.add_at.new.need c.loop-place.invariant c.in_ok-add_at.ensures.adds

pub loop-place-preserved : goal.loop-place-preserved
loop-place-preserved c = adds_on c.args.asked.now.pairs c.args.need.now c.loop-place.need c.add_at.new.need c.loop-place.invariant c.in_ok-add_at.ensures.adds
