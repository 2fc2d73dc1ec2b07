use Rattle.std.proofs.Common.{All, Any, subst}
use Rattle.std.proofs.lemmas.Bool.{both_ways}
use Rattle.track_search.specs.Visit.{EndsFail}
use Rattle.track_search.proofs.ends.ends.Goals as goal

pub returns-then-has_fingers-clause-no : goal.returns-then-has_fingers-clause-no
returns-then-has_fingers-clause-no g c = λ e none. absurd (none ((c.has_fingers.ensures c.args.task.now.kinds.now c.requires.state).0 c.if-has_fingers.true))

pub returns-clause-yes : goal.returns-clause-yes
returns-clause-yes g c = λ e. record {
  none = λ has. both_ways c.has_fingers.result c.if-has_fingers.false ((c.has_fingers.ensures c.args.task.now.kinds.now c.requires.state).1 has);
  go = subst (Any (λ way. EndsFail g.R.TrackRule.ways c.args.task.now.pins.now c.args.task.now.limit c.args.task.now.kinds.now c.args.state.now way → ⊥)) c.as_slice.ensures (c.in_ok-go.ensures.yes e);
}

pub returns-clause-no : goal.returns-clause-no
returns-clause-no g c = λ e none. subst (All (EndsFail g.R.TrackRule.ways c.args.task.now.pins.now c.args.task.now.limit c.args.task.now.kinds.now c.args.state.now)) c.as_slice.ensures (c.in_ok-go.ensures.no e)
