use Rattle.std.proofs.Common.{◌≡◌, ◌≤◌, ◌+◌, drop}
use Rattle.lef_read.specs.Statements.{line_at}
use Rattle.lef_read.proofs.scan.line_at.Given as goal

abbrev pub invariant-loop-byte : goal.invariant-loop-byte
invariant-loop-byte l = (line_at l.number (drop l.byte-index l.bytes) ≡ line_at l.line l.bytes) × (l.number ≤ l.line + l.byte-index)
