-- The lemmas that functions name, by function.
use Rattle.trail_log.proofs.Fronts.{lemmas_cut, lemmas_ended, lemmas_listed, lemmas_more, lemmas_unended}
use Rattle.trail_log.proofs.Fronts.{lemmas_unlisted, lemmas_wrong}

pub ruleset read_lemmas_rules = (
  lemmas_cut,
  lemmas_wrong,
  lemmas_more,
  lemmas_listed,
  lemmas_unlisted,
  lemmas_ended,
  lemmas_unended,
)
