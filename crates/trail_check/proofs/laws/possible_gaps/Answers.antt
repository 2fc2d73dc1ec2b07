use Rattle.trail_check.proofs.Law.{choices_of_row, possible_gaps, row_of_choices}
use Rattle.trail_check.proofs.laws.possible_gaps.Goals as goal

pub returns-clause-row : goal.returns-clause-row
returns-clause-row c = row_of_choices

pub returns-clause-choices : goal.returns-clause-choices
returns-clause-choices c = choices_of_row

pub returns-clause-possible : goal.returns-clause-possible
returns-clause-possible c = possible_gaps
