use Rattle.std.specs.Prelude.{take}
use Rattle.end_lemmas.specs.Justified.{SaysAt}
use Rattle.end_lemmas.proofs.Passed.{NoneOf}
use Rattle.end_lemmas.proofs.known.first_saying.Given as goal

abbrev pub invariant-loop-at : goal.invariant-loop-at
invariant-loop-at g l = NoneOf (SaysAt l.lemmas l.done l.state l.need) (take l.at-index l.places)
