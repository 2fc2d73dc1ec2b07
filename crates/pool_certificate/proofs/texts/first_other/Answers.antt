use Rattle.std.proofs.Common.{arith}
use Rattle.pool_certificate.proofs.OtherLines.{all_texts, first_other, more_texts}
use Rattle.pool_certificate.proofs.texts.first_other.Goals as goal

pub returns-then-not-branch-clause-other : goal.returns-then-not-branch-clause-other
returns-then-not-branch-clause-other c =
    first_other c.args.along.now.steps.pools c.args.along.now.levels c.args.lines.now c.lines.at
    c.as_slice-levels.result.now c.index-lines-at.result c.in_ok-is_text_of_state.field-0 c.lines-test.true
    c.index-lines-at.is c.as_slice-levels.ensures c.in_ok-is_text_of_state.ensures.is c.lines.invariant
    c.if-not-branch.true

pub lines-preserved : goal.lines-preserved
lines-preserved c =
    more_texts c.args.along.now.steps.pools c.args.along.now.levels c.args.lines.now c.lines.at
    c.as_slice-levels.result.now c.index-lines-at.result c.in_ok-is_text_of_state.field-0 c.lines-test.true
    c.index-lines-at.is c.as_slice-levels.ensures c.in_ok-is_text_of_state.ensures.is c.lines.invariant
    c.if-not-branch.false

pub returns-clause-texts : goal.returns-clause-texts
returns-clause-texts c =
    all_texts c.args.along.now.steps.pools c.args.along.now.levels c.args.lines.now c.lines.at
    (omega (arith, c.lines-test.false)) c.lines.invariant
