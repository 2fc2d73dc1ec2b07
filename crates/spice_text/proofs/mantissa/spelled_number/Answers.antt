use Rattle.std.proofs.Common.{arith}
use Rattle.spice_text.proofs.Digits.{value_small}
use Rattle.spice_text.proofs.mantissa.spelled_number.Goals as goal

pub returns-clause-small : goal.returns-clause-small
returns-clause-small c = omega (arith, c.loop-byte.invariant, value_small c.args.text.now c.loop-byte.byte-index c.requires)
