use Rattle.std.proofs.Common.{rules}
use Rattle.lef_read.proofs.Digits.{small}
use Rattle.lef_read.proofs.number.length.Goals as goal

pub returns-then-nanometres-clause-is : goal.returns-then-nanometres-clause-is
returns-then-nanometres-clause-is c = small c.args.word.now c.before_point-whole.result.now c.behind_point-tail.result.now c.in_ok-nanometres.field-0 c.thousandths.result c.before_point-whole.ensures c.behind_point-tail.ensures (search rules) c.in_ok-nanometres.ensures.some.0 c.thousandths.ensures c.if-nanometres.true
