use Rattle.std.proofs.Common.{◌≡◌, All, subst, ◌∙◌}
use Rattle.row_state.specs.declared.state.State.{State}
use Rattle.track_ways.specs.States.{is_still_ahead}
use Rattle.track_ways.specs.Tables.{marked}
use Rattle.track_search.specs.Visit.{AreTaken}
use Rattle.row_cycles.proofs.Loops.{all_end}
use Rattle.track_search.proofs.Lists.{fresh_none, onward_more, onward_none}
use Rattle.track_search.proofs.onward.onward_ways.Goals as goal

pub loop-way-init : goal.loop-way-init
loop-way-init g c = (onward_none g.R.TrackRule.ways c.args.task.now.pins.now c.args.task.now.limit c.args.task.now.kinds.now c.args.known.now.lemmas.now c.args.state.now c.args.next.now.step c.args.ahead.now.state.state c.args.ahead.now.left c.args.ways.now c.as_slice-way-items.result.now c.new-onward.result c.new-onward.ensures, fresh_none c.args.known.now.lemmas.now c.args.ahead.now.state.state c.args.ahead.now.left c.new-onward.result c.new-onward.ensures)

pub loop-way-preserved : goal.loop-way-preserved
loop-way-preserved g c = (
  onward_more g.R.TrackRule.ways c.args.task.now.pins.now c.args.task.now.limit c.args.task.now.kinds.now c.args.known.now.lemmas.now c.args.state.now c.args.next.now.step c.args.ahead.now.state.state c.args.ahead.now.left c.args.ways.now c.as_slice-way-items.result.now c.loop-way.onward c.add_new.new.ways c.as_slice.result.now c.loop-way.way-index c.way-item.result
      c.as_slice-way-items.ensures c.way-item.is c.loop-way-test.true (c.as_slice.ensures ∙ c.in_ok-found.ensures.ways) c.loop-way.invariant.0 c.in_ok-add_new.ensures.added,
  c.in_ok-add_new.ensures.fresh,
)

pub returns-clause-taken : goal.returns-clause-taken
returns-clause-taken g c =
    subst (All (AreTaken g.R.TrackRule.ways c.args.task.now.pins.now c.args.task.now.limit c.args.task.now.kinds.now c.args.known.now.lemmas.now c.args.state.now c.args.next.now.step c.args.ahead.now.state.state c.args.ahead.now.left c.loop-way.onward)) c.as_slice-way-items.ensures
    (all_end (AreTaken g.R.TrackRule.ways c.args.task.now.pins.now c.args.task.now.limit c.args.task.now.kinds.now c.args.known.now.lemmas.now c.args.state.now c.args.next.now.step c.args.ahead.now.state.state c.args.ahead.now.left c.loop-way.onward) c.as_slice-way-items.result.now c.loop-way.way-index c.loop-way-test.false c.loop-way.invariant.0.0)

pub ways_after-requires-clause-behind : goal.ways_after-requires-clause-behind
ways_after-requires-clause-behind g c = subst (λ (z : State). marked c.nets_after-nets.result ≡ is_still_ahead c.args.task.now.kinds.now z) c.requires.after c.nets_after-nets.ensures
