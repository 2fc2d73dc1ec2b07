use Rattle.std.proofs.Common.{◌≡◌, ◌+◌, drop}
use Rattle.lef_read.specs.Statements.{until_quote}
use Rattle.lef_read.proofs.scan.until_quote.Given as goal

abbrev pub invariant-loop-at : goal.invariant-loop-at
invariant-loop-at l = l.at + until_quote (drop l.at l.bytes) ≡ until_quote l.bytes
