use Rattle.std.proofs.Common.{◌≡◌, ◌≤◌, ◌+◌, length}
use Rattle.spice_text.specs.Physical.{physical}
use Rattle.spice_text.specs.Logical.{group, split_of}
use Rattle.spice_text.specs.Reader.{finished}
use Rattle.spice_text.proofs.logical.split_lines.Given as goal

abbrev pub invariant-lines : goal.invariant-lines
invariant-lines l = (l.number + length l.rest ≤ length l.bytes + 1) × (finished l.state.done l.state.last l.state.behind (group l.number (physical l.rest)) ≡ split_of l.bytes)

abbrev pub decreases-lines : goal.decreases-lines
decreases-lines l = length l.rest
