use Rattle.std.proofs.Common.{[], sym, ◌∙◌}
use Rattle.std.proofs.lemmas.Bool.{both_ways}
use Rattle.cell_num.proofs.Lists.{all_one}
use Rattle.track_ways.proofs.Crowded.{none_at_end}
use Rattle.track_search.specs.Visit.{EndsFail}
use Rattle.track_search.proofs.Uncrowded.{uncrowded_end}
use Rattle.track_search.proofs.closed.ends_open.Goals as goal

pub returns-then-has_fingers-clause-no : goal.returns-then-has_fingers-clause-no
returns-then-has_fingers-clause-no g c = λ e none. absurd (none ((c.has_fingers.ensures c.args.task.now.kinds.now c.requires.state).0 c.if-has_fingers.true))

pub returns-clause-no : goal.returns-clause-no
returns-clause-no g c = λ e none. all_one (EndsFail g.R.TrackRule.ways c.args.task.now.pins.now c.args.task.now.limit c.args.task.now.kinds.now c.args.state.now) [] (none_at_end g.met.R.TrackRule.is_rule c.args.task.now.pins.now c.args.task.now.limit c.args.task.now.kinds.now c.args.state.now [] c.show_limits.ensures c.requires.state (sym c.in_ok-open.ensures.is ∙ e))

pub returns-clause-yes : goal.returns-clause-yes
returns-clause-yes g c = λ e gaps. uncrowded_end c.args.task.now.pins.now c.args.task.now.limit c.args.task.now.kinds.now c.args.state.now gaps (λ has. both_ways c.has_fingers.result c.if-has_fingers.false ((c.has_fingers.ensures c.args.task.now.kinds.now c.requires.state).1 has)) (sym c.in_ok-open.ensures.is ∙ e)
