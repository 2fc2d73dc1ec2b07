use Rattle.line_widths.proofs.Found.{some_spaces}
use Rattle.line_widths.proofs.Spaced.{spaced, last, one_list}
use Rattle.line_widths.proofs.laws.lines_by_spaces.Goals as goal

pub returns-clause-some : goal.returns-clause-some
returns-clause-some c = some_spaces

pub returns-clause-one : goal.returns-clause-one
returns-clause-one c = one_list

pub returns-clause-each : goal.returns-clause-each
returns-clause-each c = λ p pins stretches d spaces xs are distances least line within. spaced p pins stretches spaces are d xs distances least line within

pub returns-clause-last : goal.returns-clause-last
returns-clause-last c = λ p pins stretches d spaces xs are distances least. last p pins stretches spaces are d xs distances least
