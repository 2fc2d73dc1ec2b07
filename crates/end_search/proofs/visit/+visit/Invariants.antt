use Rattle.std.proofs.Common.{◌≡◌, ◌+◌, ◌-◌, All, length, take}
use Rattle.end_lemmas.specs.Justified.{Reaches}
use Rattle.end_search.specs.Search.{IsFurther, lemma_of}
use Rattle.end_search.specs.Units.{units_at, units_of}
use Rattle.end_search.proofs.visit.+visit.Given as goal

abbrev pub decreases-visit : goal.decreases-visit
decreases-visit g l = length l.levels.now - l.done

abbrev pub invariant-loop-choice : goal.invariant-loop-choice
invariant-loop-choice g l =
    IsFurther (g.E.EndSteps.steps l.steps) g.E.EndSteps.number_of l.levels l.done l.state l.need l.fn.progress l.progress
    × All (Reaches (g.E.EndSteps.steps l.steps) l.progress.lemmas l.level (lemma_of l.done l.state l.need)) (take l.choice-index l.choice-items)
    × (l.progress.left + units_of (g.E.EndSteps.steps l.steps) l.levels l.progress.lemmas + units_at (g.E.EndSteps.steps l.steps) l.levels l.done
    ≡ l.fn.progress.left + units_of (g.E.EndSteps.steps l.steps) l.levels l.fn.progress.lemmas)
