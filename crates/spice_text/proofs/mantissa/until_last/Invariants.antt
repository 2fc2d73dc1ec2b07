use Rattle.std.proofs.Common.{◌≡◌, ◌≤◌, length, filter, take}
use Rattle.std.specs.Char.{is_ascii_digit}
use Rattle.spice_text.specs.Numbers.{without_zeros_at_end}
use Rattle.spice_text.proofs.mantissa.until_last.Given as goal

abbrev pub invariant-loop-end : goal.invariant-loop-end
invariant-loop-end l =
    (l.end ≤ length l.text)
    × (without_zeros_at_end (filter is_ascii_digit (take l.end l.text)) ≡ without_zeros_at_end (filter is_ascii_digit l.text))

abbrev pub decreases-loop-end : goal.decreases-loop-end
decreases-loop-end l = l.end
