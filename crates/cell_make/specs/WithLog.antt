-- What drawing the first least row resulted in, with the log of its search.
use Rattle.bound_log.specs.declared.log.Log.{Log}
use Rattle.cell_make.specs.declared.outcome.Outcome.{Outcome}
use Rattle.cell_make.specs.declared.outcome.Outcome.TheVariants as outcome
use Rattle.cell_make.specs.declared.draw_outcome.DrawOutcome.{DrawOutcome}
use Rattle.cell_make.specs.declared.draw_outcome.DrawOutcome.TheVariants as came

abbrev pub with_log : DrawOutcome → Log → Outcome
with_log (came.Drawn placement routing drawn) log = outcome.Made placement log routing drawn
with_log (came.Cyclic placement ring) log = outcome.Cyclic placement log ring
with_log (came.Tall placement routing needed given) log = outcome.Tall placement log routing needed given
