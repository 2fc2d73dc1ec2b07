use Rattle.track_search.specs.Visit.{EndsFail}
use Rattle.row_cycles.proofs.Loops.{all_end, one_more}
use Rattle.track_search.proofs.ends.some_way_ends.Goals as goal

pub loop-way-preserved : goal.loop-way-preserved
loop-way-preserved g c = one_more (EndsFail g.R.TrackRule.ways c.args.task.now.pins.now c.args.task.now.limit c.args.task.now.kinds.now c.args.state.now) c.args.ways.now c.loop-way.way-index c.way-item.result c.way-item.is c.loop-way-test.true c.loop-way.invariant (c.in_ok-way_fails.ensures.0 c.if-not-branch.false)

pub returns-clause-no : goal.returns-clause-no
returns-clause-no g c = λ e. all_end (EndsFail g.R.TrackRule.ways c.args.task.now.pins.now c.args.task.now.limit c.args.task.now.kinds.now c.args.state.now) c.args.ways.now c.loop-way.way-index c.loop-way-test.false c.loop-way.invariant
