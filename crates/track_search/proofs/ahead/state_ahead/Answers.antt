use Rattle.std.proofs.Common.{◌≡◌, ◌+◌, inl, subst, sym, ◌∙◌}
use Rattle.row_state.specs.declared.state.State.{State}
use Rattle.row_state.specs.Completion.{cost_of}
use Rattle.row_state.specs.Steps.{IsPossible, column_of, state_after}
use Rattle.track_ways.specs.Certificate.{NeedsMore}
use Rattle.track_search.proofs.Grown.{crowded_fails, shut_fails}
use Rattle.track_search.proofs.ahead.state_ahead.Goals as goal

pub returns-in_default-clause-none : goal.returns-in_default-clause-none
returns-in_default-clause-none g c = rw c.in_default.is at c.gaps_after.ensures.none

pub returns-then-branch-clause-none : goal.returns-then-branch-clause-none
returns-then-branch-clause-none g c =
    let sum : cost_of c.args.at.now.state (column_of c.args.task.now.kinds.now c.args.next.now.step) + c.in-Some.left ≡ c.args.allowed = rw c.in-Some.is at c.gaps_after.ensures.left in
    let more : NeedsMore (g.B.RowBound.value c.args.task.now.bound.now) c.args.task.now.kinds.now (state_after c.args.task.now.kinds.now c.args.at.now.state c.args.next.now.step) c.in-Some.left = subst (λ (z : State). NeedsMore (g.B.RowBound.value c.args.task.now.bound.now) c.args.task.now.kinds.now z c.in-Some.left) c.in_ok-state.ensures.state (c.in_ok-needs_more.ensures.more.0 c.if-branch.true) in
    shut_fails g.R.TrackRule.ways (g.B.RowBound.value c.args.task.now.bound.now) c.args.task.now.pins.now c.args.task.now.limit c.args.task.now.kinds.now c.needs_more.new.self.lemmas c.args.at.now.state c.args.allowed c.in-Some.left c.args.next.now.step sum (inl more)

pub returns-then-not-branch-clause-none : goal.returns-then-not-branch-clause-none
returns-then-not-branch-clause-none g c = crowded_fails g.R.TrackRule.ways (g.B.RowBound.value c.args.task.now.bound.now) c.args.task.now.pins.now c.args.task.now.limit c.args.task.now.kinds.now c.needs_more.new.self.lemmas c.args.at.now.state c.args.allowed c.args.next.now.step (c.in_ok-is_uncrowded.ensures.crowded c.if-not-branch.true)

pub returns-clause-some : goal.returns-clause-some
returns-clause-some g c =
    let possible : IsPossible c.args.task.now.kinds.now c.args.at.now.state c.args.next.now.step = rw c.in-Some.is at c.gaps_after.ensures.possible in
    let sum : cost_of c.args.at.now.state (column_of c.args.task.now.kinds.now c.args.next.now.step) + c.in-Some.left ≡ c.args.allowed = rw c.in-Some.is at c.gaps_after.ensures.left in
    record {
      possible = possible;
      numbered = c.in_ok-state.ensures.numbered;
      state = c.in_ok-state.ensures.state;
      left = sum;
      free = sym c.in_ok-is_uncrowded.ensures.is ∙ c.if-not-branch.false;
    }
