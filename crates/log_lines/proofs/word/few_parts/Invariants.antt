use Rattle.std.proofs.Common.{◌≡◌, ◌≤◌, ◌++◌, length, map}
use Rattle.arrayvec.specs.ArrayVec.{array_vec_len}
use Rattle.log_lines.specs.Words.{parts_at}
use Rattle.log_lines.proofs.word.few_parts.Given as goal

abbrev pub invariant-parts : goal.invariant-parts
invariant-parts g l = (map (λ p. p.now) l.parts.items ++ parts_at l.byte l.rest ≡ parts_at l.byte l.text) × (array_vec_len l.parts ≤ g.row.N) × (length l.rest ≤ length l.text)

abbrev pub decreases-parts : goal.decreases-parts
decreases-parts g l = length l.rest
