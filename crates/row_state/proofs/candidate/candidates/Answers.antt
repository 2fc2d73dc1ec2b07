use Rattle.row_state.proofs.Digits.{each_next}
use Rattle.row_state.proofs.candidate.candidates.Goals as goal

pub returns-clause-every : goal.returns-clause-every
returns-clause-every c = each_next c.args.kinds.now c.in_ok-all.all c.in_ok-all.ensures
