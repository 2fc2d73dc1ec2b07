use Rattle.std.proofs.Common.{◌≡◌, ◌≤◌, length}
use Rattle.lef_read.specs.Reading.{At, InLibrary, read}
use Rattle.lef_read.specs.Drafts.{outcome}
use Rattle.lef_read.proofs.library.library.Given as goal

abbrev pub invariant-statements : goal.invariant-statements
invariant-statements l = (outcome l.fn.draft (read (At InLibrary) l.fn.cursor) ≡ outcome l.draft (read (At InLibrary) l.cursor)) × (length l.cursor ≤ length l.fn.cursor)

abbrev pub decreases-statements : goal.decreases-statements
decreases-statements l = length l.cursor
