-- The lemmas that functions name, by function.
use Rattle.track_log.proofs.Fronts.{cycles_cut, cycles_done, cycles_more, cycles_wrong, lemmas_cut, lemmas_done}
use Rattle.track_log.proofs.Fronts.{lemmas_more, lemmas_open, lemmas_wrong}
use Rattle.trail_log.proofs.Each.{all_items, no_item, one_item}

pub ruleset each_of_rules = (no_item, one_item, all_items)

pub ruleset read_lemmas_rules = (lemmas_cut, lemmas_done, lemmas_open, lemmas_wrong, lemmas_more)

pub ruleset read_cycles_rules = (cycles_cut, cycles_done, cycles_wrong, cycles_more)
