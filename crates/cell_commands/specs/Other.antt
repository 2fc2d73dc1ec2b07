-- Logs that list another row.
use Rattle.bound_log.specs.declared.log.Best.{Best}
use Rattle.bound_log.specs.declared.log.Log.{Log}
use Rattle.bound_log.specs.Kept.{log_with}

-- the log, with this row in place of its own
abbrev pub log_listing : Log → Best → Log
log_listing log best = log_with log.version log.lemmas best
