-- The lemmas that functions name, by function.
use Rattle.trail_log.proofs.Each.{all_items, no_item, one_item}
use Rattle.order_log.proofs.Fronts.{lemmas_cut, lemmas_ended, lemmas_listed, lemmas_more, lemmas_unended}
use Rattle.order_log.proofs.Fronts.{lemmas_unlisted, lemmas_wrong}

pub ruleset each_of_rules = (no_item, one_item, all_items)

pub ruleset read_lemmas_rules = (
  lemmas_cut,
  lemmas_wrong,
  lemmas_more,
  lemmas_listed,
  lemmas_unlisted,
  lemmas_ended,
  lemmas_unended,
)
