use Rattle.std.proofs.Common.{◌≡◌, length, arith}
use Rattle.log_lines.proofs.Digits.{one_read, not_three_back, not_three_front, not_three_middle, not_two_back, not_two_front}
use Rattle.log_lines.proofs.word.number.Goals as goal

pub returns-in-len1-clause-some : goal.returns-in-len1-clause-some
returns-in-len1-clause-some c =
    let long : length c.args.word.now ≡ 1 = omega (arith, c.in-len1.len_at_least, c.in-len1.len_below) in
    one_read c.args.word.now _ c.digit.result long c.digit.ensures.some

pub returns-in_default-digit-clause-none : goal.returns-in_default-digit-clause-none
returns-in_default-digit-clause-none c =
    let long : length c.args.word.now ≡ 2 = omega (arith, c.in-len2.len_at_least, c.in-len2.len_below) in
    not_two_front c.args.word.now _ long c.in_default-digit.ensures.none

pub returns-in_default-digit-2-clause-none : goal.returns-in_default-digit-2-clause-none
returns-in_default-digit-2-clause-none c =
    let long : length c.args.word.now ≡ 2 = omega (arith, c.in-len2.len_at_least, c.in-len2.len_below) in
    not_two_back c.args.word.now _ long c.in_default-digit-2.ensures.none

pub returns-in_default-digit-3-clause-none : goal.returns-in_default-digit-3-clause-none
returns-in_default-digit-3-clause-none c =
    let long : length c.args.word.now ≡ 3 = omega (arith, c.in-len3.len_at_least, c.in-len3.len_below) in
    not_three_front c.args.word.now _ long c.in_default-digit-3.ensures.none

pub returns-in_default-digit-4-clause-none : goal.returns-in_default-digit-4-clause-none
returns-in_default-digit-4-clause-none c =
    let long : length c.args.word.now ≡ 3 = omega (arith, c.in-len3.len_at_least, c.in-len3.len_below) in
    not_three_middle c.args.word.now _ long c.in_default-digit-4.ensures.none

pub returns-in_default-digit-5-clause-none : goal.returns-in_default-digit-5-clause-none
returns-in_default-digit-5-clause-none c =
    let long : length c.args.word.now ≡ 3 = omega (arith, c.in-len3.len_at_least, c.in-len3.len_below) in
    not_three_back c.args.word.now _ long c.in_default-digit-5.ensures.none
