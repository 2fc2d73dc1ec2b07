-- The lemmas that functions name, by function.
use Rattle.pool_certificate.proofs.Least.{accepted_low, accepted_true, ends_tell_none, least_low}
use Rattle.pool_certificate.proofs.Refusals.{ends_refuse, faults_never, row_refuses}
use Rattle.pool_certificate.proofs.Unproved.{fill_refused, lemmas_refused, line_refused, order_refused}

pub ruleset certificate_rules = (
  accepted_low,
  accepted_true,
  least_low,
  faults_never,
  ends_refuse,
  row_refuses,
  ends_tell_none,
)

pub ruleset ends_rules = (fill_refused, lemmas_refused, line_refused, order_refused)
