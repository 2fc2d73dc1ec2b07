use Rattle.std.proofs.Common.{◌≡◌, ◌+◌, drop}
use Rattle.lef_read.specs.Statements.{word_length}
use Rattle.lef_read.proofs.scan.word_length.Given as goal

abbrev pub invariant-loop-at : goal.invariant-loop-at
invariant-loop-at l = l.at + word_length (drop l.at l.bytes) ≡ word_length l.bytes
