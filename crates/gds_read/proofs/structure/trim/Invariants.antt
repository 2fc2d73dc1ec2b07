use Rattle.std.proofs.Common.{◌≡◌, ◌≤◌, take, length}
use Rattle.gds_read.specs.Structure.{trimmed}
use Rattle.gds_read.proofs.structure.trim.Given as goal

abbrev pub invariant-loop-end : goal.invariant-loop-end
invariant-loop-end l = (l.end ≤ length l.text) × (trimmed (take l.end l.text) ≡ trimmed l.text)

abbrev pub decreases-loop-end : goal.decreases-loop-end
decreases-loop-end l = l.end
