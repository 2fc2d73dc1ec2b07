-- The lemmas that functions name, by function.
use Rattle.trail_either.proofs.Vain.{best_after, ends_after, found_filled, found_pools, next_after}
use Rattle.trail_either.proofs.Vain.{spent_filled, spent_pools}

pub ruleset filled_rules = (found_filled, spent_filled)

pub ruleset pools_rules = (found_pools, spent_pools, best_after, ends_after, next_after)
