-- The lemmas that functions name, by function.
use Rattle.open_gates.proofs.Closed.{few_closed, stops_closed}
use Rattle.trail_search.proofs.Grown.{further_same, further_then}
use Rattle.trail_search.proofs.OpenLevels.{open_short}
use Rattle.trail_search.proofs.Proved.{gate_crowded, kept_least, levels_short, none_kept}
use Rattle.trail_search.proofs.Proving.{filled_are, is_proof}
use Rattle.trail_search.proofs.Reached.{within_same}
use Rattle.trail_search.proofs.States.{state_first}
use Rattle.trail_search.proofs.Tried.{first_found, none_found, true_none}

pub ruleset steps_rules = (true_none)

pub ruleset row_from_rules = (first_found, none_found)

pub ruleset prove_rules = (none_kept, is_proof, open_short)

pub ruleset closed_rules = (few_closed, stops_closed)

pub ruleset listing_rules = (filled_are)

pub ruleset listed_rules = (levels_short, gate_crowded)

pub ruleset is_refuted_rules = (state_first, none_kept, kept_least, levels_short)

pub ruleset visit_rules = (further_same, further_then, within_same)
