-- The lemmas that functions name, by function.
use Rattle.bound_log.proofs.Counts.{all_counts, bad_count, few_here, next_count, no_part, too_many}
use Rattle.bound_log.proofs.Fronts.{columns_cut, columns_done, columns_more, columns_open, columns_wrong, log_cut}
use Rattle.bound_log.proofs.Fronts.{log_ended, log_listed, log_more, log_unended, log_unlisted, log_wrong}
use Rattle.bound_log.proofs.Keeping.{bits_joined, high_fits, low_fits}
use Rattle.bound_log.proofs.Tales.{behind_end, faulted, no_feed, one_fault, one_line}
use Rattle.bound_log.proofs.Versions.{known_version, no_front, no_version, other_version}

pub ruleset version_rules = (no_front, no_version, other_version, known_version)

pub ruleset new_rules = (high_fits, low_fits, bits_joined)

pub ruleset some_counts_rules = (few_here, no_part, bad_count, next_count, too_many, all_counts)

pub ruleset read_columns_rules = (columns_cut, columns_done, columns_open, columns_wrong, columns_more)

pub ruleset read_lemmas_rules = (log_cut, log_wrong, log_more, log_listed, log_unlisted, log_ended, log_unended)

pub ruleset take_rules = (faulted, behind_end, no_feed, one_line, one_fault)
