use Rattle.std.proofs.Common.{◌≡◌, ◌≤◌, drop}
use Rattle.lef_read.specs.Numbers.{whole_after}
use Rattle.lef_read.proofs.number.microns.Given as goal

abbrev pub invariant-loop-digit : goal.invariant-loop-digit
invariant-loop-digit l = (whole_after l.value (drop l.digit-index l.digits) ≡ whole_after 0 l.digits) × (l.value ≤ 1000000)
