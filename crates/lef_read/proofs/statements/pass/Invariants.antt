use Rattle.std.proofs.Common.{◌≡◌, ◌≤◌, length}
use Rattle.lef_read.specs.Statements.{passed}
use Rattle.lef_read.proofs.statements.pass.Given as goal

abbrev pub invariant-tokens : goal.invariant-tokens
invariant-tokens l = (passed l.cursor ≡ passed l.fn.cursor) × (length l.cursor ≤ length l.fn.cursor)

abbrev pub decreases-tokens : goal.decreases-tokens
decreases-tokens l = length l.cursor
