use Rattle.std.proofs.Common.{◌≡◌, ◌+◌, ◌-◌, arith}
use Rattle.row_state.specs.Completion.{cost_of}
use Rattle.row_state.specs.Steps.{IsPossible, column_of, state_after}
use Rattle.row_state.proofs.Calls.{valid_after}
use Rattle.track_search.specs.Bare.{IsShut}
use Rattle.track_search.proofs.Grown.{shut_fails}
use Rattle.track_search.proofs.ahead.gaps_after.Goals as goal

pub returns-then-is_shut-clause-none : goal.returns-then-is_shut-clause-none
returns-then-is_shut-clause-none g c =
    let possible : IsPossible c.args.task.now.kinds.now c.args.at.now.state c.args.next.now.step = c.allows.ensures.0 c.if-not-allows.false in
    let sum : cost_of c.args.at.now.state (column_of c.args.task.now.kinds.now c.args.next.now.step) + (c.args.allowed - c.cost-cost.result) ≡ c.args.allowed = omega (arith, c.if-allowed-cost.false, c.cost-cost.ensures c.args.task.now.kinds.now c.requires.next) in
    let shut : IsShut (g.B.RowBound.value c.args.task.now.bound.now) c.args.task.now.kinds.now c.args.progress.now.lemmas (state_after c.args.task.now.kinds.now c.args.at.now.state c.args.next.now.step) (c.args.allowed - c.cost-cost.result) = c.is_shut.ensures.yes (state_after c.args.task.now.kinds.now c.args.at.now.state c.args.next.now.step) (valid_after c.args.task.now.kinds.now c.args.at.now.state c.args.next.now.step c.show_limits.ensures c.requires.numbered.valid possible) c.code_behind.ensures c.if-is_shut.true in
    shut_fails g.R.TrackRule.ways (g.B.RowBound.value c.args.task.now.bound.now) c.args.task.now.pins.now c.args.task.now.limit c.args.task.now.kinds.now c.args.progress.now.lemmas c.args.at.now.state c.args.allowed (c.args.allowed - c.cost-cost.result) c.args.next.now.step sum shut

pub returns-clause-left : goal.returns-clause-left
returns-clause-left g c = omega (arith, c.if-allowed-cost.false, c.cost-cost.ensures c.args.task.now.kinds.now c.requires.next)
