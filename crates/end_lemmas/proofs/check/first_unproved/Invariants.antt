use Rattle.std.specs.Prelude.{take}
use Rattle.end_lemmas.specs.Indexed.{IsIndexOf}
use Rattle.end_lemmas.specs.Justified.{AreJustified}
use Rattle.end_lemmas.proofs.check.first_unproved.Given as goal

abbrev pub invariant-loop-at : goal.invariant-loop-at
invariant-loop-at g l =
    IsIndexOf g.E.EndSteps.number_of (take l.at l.lemmas) l.index
    × AreJustified (g.E.EndSteps.steps l.steps) l.levels (take l.at l.lemmas)
