-- The lemmas that functions name, by function.
use Rattle.call_end.proofs.Delivered.{all_none, rose_wider}
use Rattle.log_output.proofs.Giving.{quiet_none, untold_behind}

pub ruleset make_files_rules = (all_none, rose_wider, quiet_none, untold_behind)
