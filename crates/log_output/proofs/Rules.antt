-- The lemmas that functions name, by function.
use Rattle.log_output.proofs.Fitting.{best_fits, few_gaps, lemma_fits, lemmas_fit, step_fits, steps_fit, version_fits}
use Rattle.log_output.proofs.Giving.{can_still, failed_behind, gives_all, gives_more, gives_none, gives_some}
use Rattle.log_output.proofs.Giving.{keeps_untold, only_more, only_none, quiet_none, short_behind, some_more}
use Rattle.log_output.proofs.Giving.{some_wider, untold_behind}

pub ruleset put_rules = (gives_all, gives_some, keeps_untold)

pub ruleset add_rules = (
  some_wider,
  some_more,
  gives_none,
  gives_more,
  can_still,
  only_none,
  only_more,
  failed_behind,
  short_behind,
  untold_behind,
  quiet_none,
)

pub ruleset give_rules = (
  some_wider,
  some_more,
  gives_more,
  can_still,
  only_more,
  failed_behind,
  short_behind,
  untold_behind,
  quiet_none,
)

pub ruleset give_lemmas_rules = (
  lemma_fits,
  can_still,
  only_none,
  only_more,
  failed_behind,
  short_behind,
  untold_behind,
  quiet_none,
)

pub ruleset give_columns_rules = (
  step_fits,
  can_still,
  only_none,
  only_more,
  failed_behind,
  short_behind,
  untold_behind,
  quiet_none,
)

pub ruleset give_best_rules = (
  few_gaps,
  steps_fit,
  can_still,
  only_none,
  only_more,
  failed_behind,
  short_behind,
  untold_behind,
  quiet_none,
)

pub ruleset give_lines_rules = (
  version_fits,
  lemmas_fit,
  best_fits,
  can_still,
  only_none,
  only_more,
  failed_behind,
  short_behind,
  untold_behind,
  quiet_none,
)

pub ruleset give_whole_rules = (can_still, only_none, only_more, failed_behind, short_behind, untold_behind, quiet_none)
