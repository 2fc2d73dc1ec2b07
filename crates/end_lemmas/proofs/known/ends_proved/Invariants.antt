use Rattle.std.specs.Prelude.{take}
use Rattle.end_lemmas.specs.Justified.{AreEndsProved}
use Rattle.end_lemmas.proofs.known.ends_proved.Given as goal

abbrev pub invariant-loop-lemma : goal.invariant-loop-lemma
invariant-loop-lemma g l = AreEndsProved l.start (take l.lemma-index l.lemmas) l.most
