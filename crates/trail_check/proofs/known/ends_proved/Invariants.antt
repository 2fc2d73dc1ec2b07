use Rattle.std.proofs.Common.{◌≡◌}
use Rattle.std.specs.Prelude.{take}
use Rattle.trail_check.specs.Justified.{ends_proved}
use Rattle.trail_check.proofs.known.ends_proved.Given as goal

abbrev pub invariant-loop-lemma : goal.invariant-loop-lemma
invariant-loop-lemma l = l.most ≡ ends_proved (take l.lemma-index l.lemmas)
