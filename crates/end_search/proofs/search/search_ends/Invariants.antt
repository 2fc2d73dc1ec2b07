use Rattle.end_search.proofs.Limits.{HasProved}
use Rattle.end_search.proofs.search.search_ends.Given as goal

abbrev pub invariant-loop-limit : goal.invariant-loop-limit
invariant-loop-limit g l =
    HasProved (g.E.EndSteps.steps l.steps) g.E.EndSteps.number_of l.levels (g.E.StartedSteps.start l.steps) l.budget l.progress l.ends l.limit
