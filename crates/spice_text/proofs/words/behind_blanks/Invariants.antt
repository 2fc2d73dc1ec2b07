use Rattle.std.proofs.Common.{◌≡◌, drop}
use Rattle.spice_text.specs.Physical.{without_blanks_in_front}
use Rattle.spice_text.proofs.words.behind_blanks.Given as goal

abbrev pub invariant-loop-at : goal.invariant-loop-at
invariant-loop-at l = without_blanks_in_front (drop l.at l.line) ≡ without_blanks_in_front l.line
