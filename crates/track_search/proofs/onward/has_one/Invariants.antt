use Rattle.std.proofs.Common.{All, take}
use Rattle.track_search.specs.Visit.{HasPart}
use Rattle.track_search.proofs.onward.has_one.Given as goal

abbrev pub invariant-loop-other : goal.invariant-loop-other
invariant-loop-other l = All (λ other. HasPart l.way other → ⊥) (take l.other-index l.others)
