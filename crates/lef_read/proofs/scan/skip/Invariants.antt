use Rattle.std.proofs.Common.{◌≡◌, ◌≤◌, ◌+◌, drop}
use Rattle.lef_read.specs.Tokens.{scan, tokens_from}
use Rattle.lef_read.specs.Statements.{between_tokens}
use Rattle.lef_read.proofs.scan.skip.Given as goal

abbrev pub invariant-loop-at : goal.invariant-loop-at
invariant-loop-at l =
    ((scan (between_tokens l.comment) l.number (drop l.at l.bytes)).tokens ≡ tokens_from l.line l.bytes)
    × (l.number ≤ l.line + l.at)
