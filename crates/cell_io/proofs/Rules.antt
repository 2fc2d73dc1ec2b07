-- The lemmas that functions name, by function.
use Rattle.cell_io.proofs.Puts.{can_put_still, created_held_told, created_once, failed_after, makes_then, puts_none}
use Rattle.cell_io.proofs.Puts.{puts_stop, quiet_more, short_after, written_some, written_whole}

pub ruleset put_all_rules = (puts_none, puts_stop, can_put_still, failed_after, short_after)

pub ruleset write_all_rules = (
  created_held_told,
  written_whole,
  written_some,
  makes_then,
  created_once,
  quiet_more,
  failed_after,
  short_after,
)
