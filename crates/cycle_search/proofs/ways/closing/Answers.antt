use Rattle.cycle_search.specs.Ways.{Closes}
use Rattle.cycle_search.proofs.Needs.{item_there, one_of, way_closes}
use Rattle.cycle_search.proofs.ways.closing.Goals as goal

pub loop-step-preserved : goal.loop-step-preserved
loop-step-preserved c =
    one_of (Closes c.args.asked.now.pairs c.args.new.now) c.loop-step.best c.in_ok-back.back c.fewer-best.result c.fewer-best.ensures c.loop-step.invariant
    (way_closes c.args.asked.now.pairs c.args.new.now _ c.in_ok-back.back (item_there c.args.new.now c.loop-step.step-index _ c.loop-step-test.true) c.in_ok-back.ensures)
