use Rattle.std.proofs.Common.{◌≡◌, ◌++◌, take, drop}
use Rattle.lef_read.specs.Numbers.{before_point}
use Rattle.lef_read.proofs.number.before_point.Given as goal

abbrev pub invariant-loop-at : goal.invariant-loop-at
invariant-loop-at l = take l.at l.word ++ before_point (drop l.at l.word) ≡ before_point l.word
