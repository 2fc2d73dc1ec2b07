use Rattle.std.proofs.Common.{◌≡◌, ◌≤◌, length, take}
use Rattle.spice_text.specs.Words.{without_blanks_at_end}
use Rattle.spice_text.proofs.words.before_blanks.Given as goal

abbrev pub invariant-loop-end : goal.invariant-loop-end
invariant-loop-end l = (l.end ≤ length l.text) × (without_blanks_at_end (take l.end l.text) ≡ without_blanks_at_end l.text)

abbrev pub decreases-loop-end : goal.decreases-loop-end
decreases-loop-end l = l.end
