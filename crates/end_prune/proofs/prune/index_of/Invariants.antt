use Rattle.std.specs.Prelude.{take}
use Rattle.end_lemmas.specs.Indexed.{IsIndexOf}
use Rattle.end_prune.proofs.prune.index_of.Given as goal

abbrev pub invariant-loop-at : goal.invariant-loop-at
invariant-loop-at g l = IsIndexOf g.E.EndSteps.number_of (take l.at l.lemmas) l.index
