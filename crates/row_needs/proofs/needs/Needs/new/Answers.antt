use Rattle.std.proofs.Common.{arith, subst, sym, ◌∙◌}
use Rattle.row_needs.specs.Many.{IsLedTo}
use Rattle.row_needs.specs.Rest.{HasRest}
use Rattle.row_needs.proofs.Full.{few_rests}
use Rattle.row_needs.proofs.Led.{led_start}
use Rattle.row_needs.proofs.needs.Needs.new.Goals as goal

pub need-requires-clause-sound : goal.need-requires-clause-sound
need-requires-clause-sound c = c.none-needs.ensures.sound c.args.kinds.now

pub need-requires-clause-closed : goal.need-requires-clause-closed
need-requires-clause-closed c = c.none-needs.ensures.closed c.args.kinds.now

pub returns-clause-start : goal.returns-clause-start
returns-clause-start c = subst (HasRest c.args.kinds.now c.need.new.needs) (c.new-first.ensures.state ∙ c.in_ok-start.ensures.state) c.in_ok-need.ensures.here

pub need-requires-clause-led : goal.need-requires-clause-led
need-requires-clause-led c = subst (IsLedTo c.args.kinds.now) (sym (c.new-first.ensures.state ∙ c.in_ok-start.ensures.state)) (led_start c.args.kinds.now)

pub need-requires-clause-all_led : goal.need-requires-clause-all_led
need-requires-clause-all_led c = c.none-needs.ensures.led c.args.kinds.now

pub returns-clause-few : goal.returns-clause-few
returns-clause-few c = few_rests c.args.kinds.now c.need.new.needs c.args.limit c.show_limits.ensures c.in_ok-need.ensures.closed (subst (HasRest c.args.kinds.now c.need.new.needs) (c.new-first.ensures.state ∙ c.in_ok-start.ensures.state) c.in_ok-need.ensures.here) c.in_ok-need.ensures.within

pub need-requires-clause-within : goal.need-requires-clause-within
need-requires-clause-within c = omega (arith, c.none-needs.ensures.empty)
