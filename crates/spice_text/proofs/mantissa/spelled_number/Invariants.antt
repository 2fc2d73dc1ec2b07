use Rattle.std.proofs.Common.{◌≡◌, filter, take}
use Rattle.std.specs.Char.{is_ascii_digit}
use Rattle.spice_text.specs.Numbers.{spelled_number}
use Rattle.spice_text.proofs.mantissa.spelled_number.Given as goal

abbrev pub invariant-loop-byte : goal.invariant-loop-byte
invariant-loop-byte l = l.value ≡ spelled_number (filter is_ascii_digit (take l.byte-index l.text))
