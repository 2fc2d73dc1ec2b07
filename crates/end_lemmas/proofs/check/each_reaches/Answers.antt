use Rattle.std.proofs.Common.{arith}
use Rattle.end_lemmas.specs.Justified.{Reaches}
use Rattle.end_lemmas.proofs.Passed.{all_more, all_passed, not_all}
use Rattle.end_lemmas.proofs.check.each_reaches.Goals as goal

pub returns-then-not-branch : goal.returns-then-not-branch
returns-then-not-branch g c =
    not_all (Reaches (g.E.EndSteps.steps c.args.steps.now) c.args.earlier.now c.args.level.now c.args.lemma.now)
    c.choices-choices.result.now c.loop-choice.choice-index c.choice-item.result c.in_ok-reaches.field-0
    c.loop-choice-test.true c.choice-item.is c.in_ok-reaches.ensures
    ((g.E.EndSteps.steps c.args.steps.now).choices c.args.level.now) c.choices-choices.ensures c.if-not-branch.true

pub loop-choice-preserved : goal.loop-choice-preserved
loop-choice-preserved g c =
    all_more (Reaches (g.E.EndSteps.steps c.args.steps.now) c.args.earlier.now c.args.level.now c.args.lemma.now)
    c.choices-choices.result.now c.loop-choice.choice-index c.choice-item.result c.in_ok-reaches.field-0
    c.loop-choice-test.true c.choice-item.is c.in_ok-reaches.ensures c.loop-choice.invariant c.if-not-branch.false

pub returns : goal.returns
returns g c =
    all_passed (Reaches (g.E.EndSteps.steps c.args.steps.now) c.args.earlier.now c.args.level.now c.args.lemma.now)
    c.choices-choices.result.now c.loop-choice.choice-index (omega (arith, c.loop-choice-test.false))
    ((g.E.EndSteps.steps c.args.steps.now).choices c.args.level.now) c.choices-choices.ensures c.loop-choice.invariant
