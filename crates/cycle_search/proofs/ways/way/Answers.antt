use Rattle.std.proofs.Common.{inl, refl}
use Rattle.cycle_search.proofs.Needs.{adds_all, item_there, none_follow, way_end, way_step}
use Rattle.cycle_search.proofs.ways.way.Goals as goal

pub loop-step-init : goal.loop-step-init
loop-step-init c = (none_follow c.args.asked.now.pairs c.new-pairs.result c.new-pairs.ensures, inl refl)

pub loop-step-preserved : goal.loop-step-preserved
loop-step-preserved c = (
  adds_all c.args.asked.now.pairs c.loop-step.pairs c.add_pair.new.pairs c.loop-step.invariant.0 c.in_ok-add_pair.ensures.adds,
  way_step c.args.asked.now.pairs c.args.steps.now c.loop-step.pairs c.add_pair.new.pairs c.args.from c.loop-step.net _ c.in_ok-add_pair.ensures.adds (item_there c.args.steps.now c.loop-step.step-index _ c.loop-step-test.true) c.loop-step.invariant.1 (c.in_ok-add_pair.ensures.leads c.if-not-branch.false),
)

pub returns : goal.returns
returns c = way_end c.args.asked.now.pairs c.args.steps.now c.loop-step.pairs c.add_pair-2.new.pairs c.args.from c.loop-step.net c.args.to c.in_ok-add_pair-2.ensures.adds c.loop-step.invariant.0 c.loop-step.invariant.1 (c.in_ok-add_pair-2.ensures.leads c.if-not-branch-2.false)
