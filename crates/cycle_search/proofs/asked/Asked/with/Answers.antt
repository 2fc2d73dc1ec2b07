use Rattle.std.proofs.Common.{subst, sym}
use Rattle.cycle_search.specs.Below.{IsSound}
use Rattle.cycle_search.proofs.asked.Asked.with.Goals as goal

pub returns-clause-sound : goal.returns-clause-sound
returns-clause-sound c = subst (λ ps. IsSound ps c.in_ok-below.below) (sym c.in_ok-pairs.ensures) c.in_ok-below.ensures
