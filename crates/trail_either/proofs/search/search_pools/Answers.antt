use Rattle.trail_either.proofs.Vain.{found_pools}
use Rattle.trail_either.proofs.search.search_pools.Goals as goal

pub returns-in-Ok-clause-ended : goal.returns-in-Ok-clause-ended
returns-in-Ok-clause-ended c =
    found_pools c.args.fingers.now c.args.budget c.in-Ok.found.row c.args.best c.in-Ok.found.certificate c.args.opening
    c.requires.next c.in-Ok.ensures.found
