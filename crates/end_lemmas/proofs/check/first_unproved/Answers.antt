use Rattle.std.proofs.Common.{arith, subst, sym}
use Rattle.end_lemmas.specs.Indexed.{IsIndexOf}
use Rattle.end_lemmas.proofs.First.{all_justified, justified_more, one_more, one_unproved}
use Rattle.end_lemmas.proofs.check.first_unproved.Goals as goal

pub returns-then-not-branch : goal.returns-then-not-branch
returns-then-not-branch g c =
    one_unproved (g.E.EndSteps.steps c.args.steps.now) c.args.levels.now c.args.lemmas.now c.loop-at.at
    c.index-lemmas-at.result c.in_ok-is_justified.field-0 c.loop-at-test.true c.index-lemmas-at.is
    c.in_ok-is_justified.ensures c.loop-at.invariant.1 c.if-not-branch.true

pub loop-at-preserved : goal.loop-at-preserved
loop-at-preserved g c = (
  subst (λ lemmas. IsIndexOf g.E.EndSteps.number_of lemmas c.add.new.self)
      (sym (one_more c.args.lemmas.now c.loop-at.at c.index-lemmas-at.result c.loop-at-test.true c.index-lemmas-at.is))
      c.in_ok-add.ensures,
  justified_more (g.E.EndSteps.steps c.args.steps.now) c.args.levels.now c.args.lemmas.now c.loop-at.at
      c.index-lemmas-at.result c.in_ok-is_justified.field-0 c.loop-at-test.true c.index-lemmas-at.is
      c.in_ok-is_justified.ensures c.loop-at.invariant.1 c.if-not-branch.false,
)

pub returns : goal.returns
returns g c =
    all_justified (g.E.EndSteps.steps c.args.steps.now) c.args.levels.now c.args.lemmas.now c.loop-at.at
    (omega (arith, c.loop-at-test.false)) c.loop-at.invariant.1
