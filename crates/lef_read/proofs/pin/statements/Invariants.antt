use Rattle.std.proofs.Common.{◌≡◌, ◌≤◌, length}
use Rattle.lef_read.specs.Reading.{At, InPin, read}
use Rattle.lef_read.specs.Drafts.{outcome}
use Rattle.lef_read.proofs.pin.statements.Given as goal

abbrev pub invariant-statements : goal.invariant-statements
invariant-statements l = (outcome l.fn.draft (read (At (InPin l.cell l.pin)) l.fn.cursor) ≡ outcome l.draft (read (At (InPin l.cell l.pin)) l.cursor)) × (length l.cursor ≤ length l.fn.cursor)

abbrev pub decreases-statements : goal.decreases-statements
decreases-statements l = length l.cursor
