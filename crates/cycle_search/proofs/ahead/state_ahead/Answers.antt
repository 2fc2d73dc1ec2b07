use Rattle.std.proofs.Common.{◌≤◌, arith}
use Rattle.std.proofs.lemmas.Bool.{both_ways}
use Rattle.cycle_search.proofs.Needs.{adds_none}
use Rattle.cycle_search.proofs.Visited.{ahead_some, none_left}
use Rattle.cycle_search.proofs.ahead.state_ahead.Goals as goal

pub returns-then-not-allows-clause-adds : goal.returns-then-not-allows-clause-adds
returns-then-not-allows-clause-adds g c = adds_none c.args.asked.now.pairs c.args.need.now

pub returns-then-not-allows-clause-none : goal.returns-then-not-allows-clause-none
returns-then-not-allows-clause-none g c = λ left possible sum. absurd (both_ways c.allows.result c.if-not-allows.true (c.allows.ensures.1 possible))

pub returns-then-allowed-cost-clause-adds : goal.returns-then-allowed-cost-clause-adds
returns-then-allowed-cost-clause-adds g c = adds_none c.args.asked.now.pairs c.args.need.now

pub returns-clause-none : goal.returns-clause-none
returns-clause-none g c =
    let low : c.cost-cost.result ≤ c.args.allowed = omega (arith, c.if-allowed-cost.false) in
    none_left (g.B.GapBound.value c.args.task.now.bound.now) c.args.task.now.pins.now c.args.task.now.kinds.now c.args.known.now.lemmas.now c.args.at.now.state c.open_ahead.new.need c.args.allowed c.cost-cost.result c.args.next.now.step c.in_ok-ahead.ahead (c.cost-cost.ensures c.args.task.now.kinds.now c.requires.next) low c.in_ok-ahead.ensures.none

pub returns-clause-some : goal.returns-clause-some
returns-clause-some g c =
    let low : c.cost-cost.result ≤ c.args.allowed = omega (arith, c.if-allowed-cost.false) in
    ahead_some c.args.task.now.pins.now c.args.task.now.kinds.now c.args.at.now.state c.args.asked.now.pairs c.args.allowed c.cost-cost.result c.args.next.now.step c.in_ok-ahead.ahead (c.allows.ensures.0 c.if-not-allows.false) (c.cost-cost.ensures c.args.task.now.kinds.now c.requires.next) low c.in_ok-ahead.ensures.some
