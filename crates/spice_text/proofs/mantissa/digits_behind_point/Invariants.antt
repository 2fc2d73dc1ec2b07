use Rattle.std.proofs.Common.{◌≡◌, drop}
use Rattle.spice_text.specs.Numbers.{places_of}
use Rattle.spice_text.proofs.mantissa.digits_behind_point.Given as goal

abbrev pub invariant-loop-at : goal.invariant-loop-at
invariant-loop-at l = places_of (drop l.at l.text) ≡ places_of l.text
