use Rattle.std.proofs.Common.{◌+◌, ◌/◌, false}
use Rattle.row_state.specs.Start.{columns_left}
use Rattle.trail_search.specs.Visit.{IsSpent}
use Rattle.trail_search.proofs.Went.{went_at_once, went_never, went_twice}
use Rattle.trail_search.proofs.first.steps_within.Goals as goal

pub returns-in-Never-clause-spent : goal.returns-in-Never-clause-spent
returns-in-Never-clause-spent c =
    went_never c.args.kinds.now c.args.first.now.state c.show_limits.ensures c.requires.state
    (columns_left c.args.kinds.now c.args.first.now.state + 1) (c.args.gaps + 1) c.args.units c.search.result
    c.args.attempts c.new.result c.search.new.learned.known c.in-Never.is c.search.ensures.spent

pub returns-in-AtOnce-clause-spent : goal.returns-in-AtOnce-clause-spent
returns-in-AtOnce-clause-spent c =
    went_at_once c.args.kinds.now c.args.first.now.state c.show_limits.ensures c.requires.state
    (columns_left c.args.kinds.now c.args.first.now.state + 1) (c.args.gaps + 1) c.args.units
    c.search-in-AtOnce.result c.args.attempts c.new.result c.search-in-AtOnce.new.learned.known c.in-AtOnce.is
    c.search-in-AtOnce.ensures.spent

pub returns-in-Err-Spent-clause-spent : goal.returns-in-Err-Spent-clause-spent
returns-in-Err-Spent-clause-spent c =
    let first : IsSpent c.args.kinds.now false (columns_left c.args.kinds.now c.args.first.now.state + 1)
    c.args.first.now.state (c.args.gaps + 1) c.new.result c.search-in-InSecondHalf.new.learned.known (c.args.units / 2)
    0 (columns_left c.args.kinds.now c.args.first.now.state) =
    rw c.in-Err-Spent.field-0-is at c.in-Err-Spent.ensures.spent in
    went_twice c.args.kinds.now c.args.first.now.state c.show_limits.ensures c.requires.state
    (columns_left c.args.kinds.now c.args.first.now.state + 1) (c.args.gaps + 1) c.args.units
    c.search-in-Err-Spent.result c.args.attempts c.new.result c.search-in-InSecondHalf.new.learned.known
    c.search-in-Err-Spent.new.learned.known c.in-InSecondHalf.is first c.search-in-Err-Spent.ensures.spent
