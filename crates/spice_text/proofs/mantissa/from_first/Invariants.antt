use Rattle.std.proofs.Common.{◌≡◌, drop}
use Rattle.spice_text.specs.Numbers.{digits_of}
use Rattle.spice_text.proofs.mantissa.from_first.Given as goal

abbrev pub invariant-loop-at : goal.invariant-loop-at
invariant-loop-at l = digits_of (drop l.at l.text) ≡ digits_of l.text
