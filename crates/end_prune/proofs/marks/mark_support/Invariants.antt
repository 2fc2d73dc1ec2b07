use Rattle.std.specs.Prelude.{All, take}
use Rattle.end_lemmas.specs.Justified.{Reaches}
use Rattle.end_prune.specs.Marks.{AreMarkedFor, marked}
use Rattle.end_prune.proofs.marks.mark_support.Given as goal

abbrev pub invariant-loop-choice : goal.invariant-loop-choice
invariant-loop-choice g l =
    AreMarkedFor (g.E.EndSteps.steps l.steps) l.level l.lemma l.earlier l.fn.marks.items l.marks.items
    × All (Reaches (g.E.EndSteps.steps l.steps) (marked l.marks.items l.earlier) l.level l.lemma)
    (take l.choice-index l.choice-items)
