use Rattle.std.proofs.Common.{subst}
use Rattle.std.proofs.lemmas.Bool.{both_ways}
use Rattle.row_state.specs.Start.{IsState}
use Rattle.row_cycles.proofs.Loops.{no_from}
use Rattle.track_check.proofs.lemma.branches.Goals as goal

pub returns-then-not-branch : goal.returns-then-not-branch
returns-then-not-branch g c = no_from (λ b. both_ways _ c.if-not-branch.true (c.in_ok-end_fails.ensures.1 b.ends))

pub end_fails-requires-clause-valid : goal.end_fails-requires-clause-valid
end_fails-requires-clause-valid g c = subst (IsState c.args.grounds.now.kinds.now) c.requires.state c.requires.numbered.valid

pub returns : goal.returns
returns g c = (
  λ e. record { steps = λ step left possible sum. c.in_ok-fail.ensures.0 e step left possible sum; ends = c.in_ok-end_fails.ensures.0 c.if-not-branch.false },
  λ b. c.in_ok-fail.ensures.1 (λ step left possible sum. b.steps step left possible sum),
)
