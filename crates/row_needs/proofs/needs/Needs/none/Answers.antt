use Rattle.row_needs.proofs.Led.{led_none}
use Rattle.row_needs.proofs.needs.Needs.none.Goals as goal

pub returns-clause-led : goal.returns-clause-led
returns-clause-led c = λ k. led_none k (record { rests = c.new.result }) c.new.ensures.empty
