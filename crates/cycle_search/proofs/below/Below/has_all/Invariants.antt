use Rattle.std.proofs.Common.{All, take}
use Rattle.cycle_search.specs.Below.{HasPair}
use Rattle.cycle_search.proofs.below.Below.has_all.Given as goal

abbrev pub invariant-loop-a : goal.invariant-loop-a
invariant-loop-a l = All (HasPair l.self) (take l.a-index l.pairs)
