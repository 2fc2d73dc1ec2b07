use Rattle.std.proofs.Common.{◌≡◌, ◌≤◌, length}
use Rattle.lef_read.specs.Reading.{At, InMacro, read}
use Rattle.lef_read.specs.Drafts.{outcome}
use Rattle.lef_read.proofs.library.statements.Given as goal

abbrev pub invariant-statements : goal.invariant-statements
invariant-statements l = (outcome l.fn.draft (read (At (InMacro l.cell)) l.fn.cursor) ≡ outcome l.draft (read (At (InMacro l.cell)) l.cursor)) × (length l.cursor ≤ length l.fn.cursor)

abbrev pub decreases-statements : goal.decreases-statements
decreases-statements l = length l.cursor
