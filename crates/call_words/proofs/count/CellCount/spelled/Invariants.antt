use Rattle.call_words.proofs.Numbers.{AreOthers}
use Rattle.call_words.proofs.count.CellCount.spelled.Given as goal

abbrev pub invariant-numbers : goal.invariant-numbers
invariant-numbers l = AreOthers l.word l.number
