use Rattle.std.proofs.Common.{◌≡◌, take}
use Rattle.row_search.proofs.whole.unpacked.Given as goal

abbrev pub invariant-loop-at : goal.invariant-loop-at
invariant-loop-at l = l.lemmas ≡ take l.at l.kept
