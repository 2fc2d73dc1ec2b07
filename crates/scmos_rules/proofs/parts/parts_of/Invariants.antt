use Rattle.std.proofs.Common.{◌≡◌, ◌++◌, drop}
use Rattle.scmos_rules.specs.Near.{numbered}
use Rattle.scmos_rules.proofs.parts.parts_of.Given as goal

abbrev pub invariant-loop-number : goal.invariant-loop-number
invariant-loop-number l = l.parts.items ++ numbered l.number (drop l.number l.blocks) ≡ numbered 0 l.blocks
