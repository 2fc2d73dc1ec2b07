use Rattle.std.proofs.Common.{◌≡◌, ◌≤◌, length, false}
use Rattle.lef_read.specs.Statements.{units_passed}
use Rattle.lef_read.proofs.statements.units.Given as goal

abbrev pub invariant-tokens : goal.invariant-tokens
invariant-tokens l = (units_passed l.end l.cursor ≡ units_passed false l.fn.cursor) × (length l.cursor ≤ length l.fn.cursor)

abbrev pub decreases-tokens : goal.decreases-tokens
decreases-tokens l = length l.cursor
