use Rattle.std.proofs.Common.{◌≡◌, drop}
use Rattle.lef_read.specs.Numbers.{behind_point}
use Rattle.lef_read.proofs.number.behind_point.Given as goal

abbrev pub invariant-loop-at : goal.invariant-loop-at
invariant-loop-at l = behind_point (drop l.at l.word) ≡ behind_point l.word
