use Rattle.cycle_search.specs.Ways.{IsWay}
use Rattle.cycle_search.proofs.Needs.{item_there, one_of, way_none, way_one, way_two}
use Rattle.cycle_search.proofs.ways.shortest.Goals as goal

pub loop-first-init : goal.loop-first-init
loop-first-init c = way_none c.args.asked.now.pairs c.args.new.now c.args.from c.args.to c.in_ok-best.best c.in_ok-best.ensures

pub loop-second-init : goal.loop-second-init
loop-second-init c =
    one_of (IsWay c.args.asked.now.pairs c.args.new.now c.args.from c.args.to) c.loop-first.best c.in_ok-by_one.by_one c.fewer-best.result c.fewer-best.ensures c.loop-first.invariant
    (way_one c.args.asked.now.pairs c.args.new.now _ c.args.from c.args.to c.in_ok-by_one.by_one (item_there c.args.new.now c.loop-first.first-index _ c.loop-first-test.true) c.in_ok-by_one.ensures)

pub loop-second-preserved : goal.loop-second-preserved
loop-second-preserved c =
    one_of (IsWay c.args.asked.now.pairs c.args.new.now c.args.from c.args.to) c.loop-second.best c.in_ok-by_two.by_two c.fewer-best-in-loop-second.result c.fewer-best-in-loop-second.ensures c.loop-second.invariant
    (way_two c.args.asked.now.pairs c.args.new.now _ _ c.args.from c.args.to c.in_ok-by_two.by_two (item_there c.args.new.now c.loop-first.first-index _ c.loop-first-test.true) (item_there c.args.new.now c.loop-second.second-index _ c.loop-second-test.true) c.in_ok-by_two.ensures)
