use Rattle.std.proofs.Common.{ap, ◌∙◌}
use Rattle.pool_trails.specs.declared.opening.Opening.TheVariants.{Without}
use Rattle.pool_trails.specs.Opening.{other_row}
use Rattle.trail_either.specs.Ends.{EndsBy, IsBest, NextBy}
use Rattle.trail_either.proofs.Vain.{all_ended}
use Rattle.trail_either.proofs.search.search_without.Goals as goal

pub returns-in-NoRow-2-clause-stopped : goal.returns-in-NoRow-2-clause-stopped
returns-in-NoRow-2-clause-stopped c =
    let ended : IsBest c.args.fingers.now c.args.budget c.in-NoRow-2.best
    × NextBy c.args.fingers.now c.args.budget c.in-NoRow-2.best (Without c.other_row-second.result)
    × EndsBy c.args.fingers.now c.args.budget c.in-NoRow-2.best (Without c.other_row-second.result) =
    rw c.in-NoRow-2.is at c.in_ok-found-2.ensures.ended in
    all_ended c.args.fingers.now c.args.budget c.args.gate c.requires.gate c.in-NoRow-2.best c.other_row-second.result
    c.without_row.result ended.0 ended.1 ended.2 (c.other_row-second.ensures ∙ ap other_row c.in-Ok.ensures)
    c.without_row.ensures
