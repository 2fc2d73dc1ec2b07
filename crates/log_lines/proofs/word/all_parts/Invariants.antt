use Rattle.std.proofs.Common.{◌≡◌, ◌≤◌, ◌++◌, length, map}
use Rattle.log_lines.specs.Words.{parts_at}
use Rattle.log_lines.proofs.word.all_parts.Given as goal

abbrev pub invariant-parts : goal.invariant-parts
invariant-parts l = (map (λ p. p.now) l.parts ++ parts_at l.byte l.rest ≡ parts_at l.byte l.text) × (length l.rest ≤ length l.text)

abbrev pub decreases-parts : goal.decreases-parts
decreases-parts l = length l.rest
