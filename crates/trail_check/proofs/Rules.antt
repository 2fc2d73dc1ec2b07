-- The lemmas that functions name, by function.
use Rattle.open_gates.proofs.Closed.{few_closed, stops_closed}
use Rattle.trail_check.proofs.Least.{accepted_low, accepted_true, lemmas_low, refusal_low, row_low}
use Rattle.trail_check.proofs.Lines.{all_proved, first_fails, known_more, one_more}
use Rattle.trail_check.proofs.Refusals.{accepts, faults_never, gates_never, lemmas_refuse, row_refuses}

pub ruleset levels_rules = (few_closed, stops_closed)

pub ruleset check_listed_rules = (accepts, lemmas_refuse, row_refuses, row_low, refusal_low, lemmas_low)

pub ruleset check_trails_rules = (accepted_low, accepted_true, faults_never, gates_never)

pub ruleset check_lemmas_rules = (first_fails, one_more, all_proved, known_more)
