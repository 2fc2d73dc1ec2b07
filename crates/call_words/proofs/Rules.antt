-- The lemmas that functions name, by function.
use Rattle.call_words.proofs.Numbers.{no_number, none_more, none_spelled, number_is}

pub ruleset spelled_rules = (none_spelled, none_more, number_is, no_number)
