-- The lemmas that functions name, by function.
use Rattle.log_lines.proofs.Digits.{not_long, not_three_back, not_three_front, not_three_middle, not_two_back}
use Rattle.log_lines.proofs.Digits.{not_two_front, not_zero, one_read, one_unread, three_digits, two_digits}
use Rattle.log_lines.proofs.Feeds.{feed_within, first_behind, first_lines, no_line}
use Rattle.log_lines.proofs.Numbers.{is_below, no_number, not_below}
use Rattle.log_lines.proofs.Parts.{first_cut, not_cut, one_byte, part_last, part_more, parts_full, second_cut}

pub ruleset first_line_rules = (no_line, first_lines, first_behind, feed_within)

pub ruleset first_part_rules = (one_byte, second_cut, first_cut, not_cut)

pub ruleset few_parts_rules = (part_more, part_last, parts_full)

pub ruleset number_rules = (
  one_read,
  two_digits,
  three_digits,
  one_unread,
  not_two_front,
  not_two_back,
  not_three_front,
  not_three_middle,
  not_three_back,
  not_zero,
  not_long,
)

pub ruleset number_below_rules = (is_below, not_below, no_number)
