use Rattle.end_prune.proofs.Support.{all_reached, marked_more, reached_at, reached_more}
use Rattle.end_prune.proofs.marks.mark_support.Goals as goal

pub mark_behind-requires-clause-reached : goal.mark_behind-requires-clause-reached
mark_behind-requires-clause-reached g c =
    reached_at (g.E.EndSteps.steps c.args.steps.now) c.args.level.now c.args.lemma.now c.args.earlier.now
    c.choices-choice-items.result.now c.loop-choice.choice-index c.choice-item.result c.loop-choice-test.true
    c.choice-item.is c.choices-choice-items.ensures c.requires.reached

pub loop-choice-preserved : goal.loop-choice-preserved
loop-choice-preserved g c = (
  marked_more (g.E.EndSteps.steps c.args.steps.now) c.args.level.now c.args.lemma.now c.args.earlier.now
      c.args.marks.now.items c.loop-choice.marks.items c.mark_behind.new.marks.items c.loop-choice.invariant.0
      c.in_ok-mark_behind.ensures.more,
  reached_more (g.E.EndSteps.steps c.args.steps.now) c.args.level.now c.args.lemma.now c.args.earlier.now
      c.choices-choice-items.result.now c.loop-choice.choice-index c.choice-item.result c.loop-choice.marks.items
      c.mark_behind.new.marks.items c.loop-choice-test.true c.choice-item.is c.in_ok-mark_behind.ensures.more
      c.loop-choice.invariant.1 c.in_ok-mark_behind.ensures.reached,
)

pub returns-clause-reached : goal.returns-clause-reached
returns-clause-reached g c =
    all_reached (g.E.EndSteps.steps c.args.steps.now) c.args.level.now c.args.lemma.now c.args.earlier.now
    c.choices-choice-items.result.now c.loop-choice.choice-index c.loop-choice.marks.items c.loop-choice-test.false
    c.choices-choice-items.ensures c.loop-choice.invariant.1
