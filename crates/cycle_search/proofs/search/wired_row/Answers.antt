use Rattle.cycle_search.proofs.Visited.{fit_texts}
use Rattle.cycle_search.proofs.search.wired_row.Goals as goal

pub returns-clause-fits : goal.returns-clause-fits
returns-clause-fits g c = λ few. fit_texts (g.B.GapBound.value c.args.bound.now) c.args.pins.now c.args.kinds.now c.args.gaps c.args.budget c.in_ok-ended.ended few c.in_ok-ended.ensures.kept
