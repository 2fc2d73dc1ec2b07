-- The lemmas that functions name, by function.
use Rattle.cell_num.proofs.Nearest.{far, is_above, is_beyond, is_told, nearest_is, nearest_of_large, nearest_of_small}
use Rattle.cell_num.proofs.Nearest.{nearest_of_zero, not_far, parts_within, unit_there, unit_within}

pub ruleset nearest_rules = (
  nearest_is,
  nearest_of_zero,
  nearest_of_small,
  nearest_of_large,
  parts_within,
  unit_within,
  unit_there,
)

pub ruleset snap_rules = (far, not_far, is_told, is_beyond, is_above)
