use Rattle.trail_search.specs.Ended.{IsTrailSpent}
use Rattle.trail_either.proofs.Vain.{found_filled, spent_filled}
use Rattle.trail_either.proofs.search.search_filled.Goals as goal

pub returns-in-Ok-clause-found : goal.returns-in-Ok-clause-found
returns-in-Ok-clause-found c =
    found_filled c.args.fingers.now c.args.budget c.in-Ok.found.row c.args.best c.in-Ok.found.trails c.requires.longer
    c.in-Ok.ensures.found

pub returns-in-Err-Unfinished-clause-stopped : goal.returns-in-Err-Unfinished-clause-stopped
returns-in-Err-Unfinished-clause-stopped c =
    let is : IsTrailSpent c.args.fingers.now c.args.budget c.in-Err-Unfinished.trails c.in-Err-Unfinished.proved =
    rw c.in-Err-Unfinished.field-0-is at c.in-Err-Unfinished.ensures.stopped in
    spent_filled c.args.fingers.now c.args.budget c.args.best c.in-Err-Unfinished.proved c.spent.result
    c.in-Err-Unfinished.trails c.requires.longer c.requires.best is c.spent.ensures
