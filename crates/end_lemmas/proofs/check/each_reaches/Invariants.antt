use Rattle.std.specs.Prelude.{All, take}
use Rattle.end_lemmas.specs.Justified.{Reaches}
use Rattle.end_lemmas.proofs.check.each_reaches.Given as goal

abbrev pub invariant-loop-choice : goal.invariant-loop-choice
invariant-loop-choice g l =
    All (Reaches (g.E.EndSteps.steps l.steps) l.earlier l.level l.lemma) (take l.choice-index l.choices)
