use Rattle.row_state.specs.Completion.{left_in}
use Rattle.row_needs.specs.Rest.{IsRest}
use Rattle.row_needs.proofs.Rests.{best_is, not_both, nothing_is, rest_few}
use Rattle.row_needs.proofs.needs.finished.Goals as goal

pub returns-then-has_fingers-clause-rest : goal.returns-then-has_fingers-clause-rest
returns-then-has_fingers-clause-rest c = best_is c.args.task.now.kinds.now c.args.at.now.state c.args.task.now.candidates.now c.args.rest c.show_limits.ensures c.requires.candidates c.requires.numbered.valid ((c.has_fingers.ensures c.args.task.now.kinds.now c.requires.numbered.valid).0 c.if-has_fingers.true) c.requires.best

pub returns-then-has_fingers-clause-few : goal.returns-then-has_fingers-clause-few
returns-then-has_fingers-clause-few c =
    let is : IsRest (left_in c.args.task.now.kinds.now c.args.at.now.state) c.args.rest = best_is c.args.task.now.kinds.now c.args.at.now.state c.args.task.now.candidates.now c.args.rest c.show_limits.ensures c.requires.candidates c.requires.numbered.valid ((c.has_fingers.ensures c.args.task.now.kinds.now c.requires.numbered.valid).0 c.if-has_fingers.true) c.requires.best in
    rest_few c.args.task.now.kinds.now c.args.at.now.state c.args.rest 32 is c.requires.few

pub returns-clause-rest : goal.returns-clause-rest
returns-clause-rest c = nothing_is c.args.task.now.kinds.now c.args.at.now.state c.args.task.now.candidates.now c.args.rest c.take.new.self c.none.result (λ some. not_both c.has_fingers.result ((c.has_fingers.ensures c.args.task.now.kinds.now c.requires.numbered.valid).1 some) c.if-has_fingers.false) c.requires.best c.none.ensures c.in_ok-take.ensures
