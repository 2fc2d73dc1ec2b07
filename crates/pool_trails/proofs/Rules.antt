-- The lemmas that functions name, by function.
use Rattle.pool_trails.proofs.Opened.{filled_are}
use Rattle.pool_trails.proofs.Lists.{all_alike, more_alike, one_unlike}
use Rattle.pool_trails.proofs.Lists.{no_text, other_fill, other_lemmas, other_order, others_read, text_long, with_row}
use Rattle.pool_trails.proofs.Searched.{few_gates}

pub ruleset gates_rules = (filled_are)

pub ruleset search_rules = (few_gates)

pub ruleset listed_rules = (others_read, text_long)

pub ruleset are_listed_rules = (all_alike, more_alike, one_unlike)

pub ruleset lists_rules = (other_fill, other_lemmas, other_order, with_row)

pub ruleset texts_rules = (no_text)
