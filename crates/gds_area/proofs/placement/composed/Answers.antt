use Rattle.gds_area.proofs.Moved.{sums}
use Rattle.gds_area.proofs.placement.composed.Goals as goal

pub offset-requires-clause-low : goal.offset-requires-clause-low
offset-requires-clause-low c = (sums c.args.levels c.args.outer.now c.args.inner.now c.faced-faced.result c.faced-faced.ensures.value c.requires.levels c.requires.outer c.requires.inner).left

pub offset-requires-clause-high : goal.offset-requires-clause-high
offset-requires-clause-high c = (sums c.args.levels c.args.outer.now c.args.inner.now c.faced-faced.result c.faced-faced.ensures.value c.requires.levels c.requires.outer c.requires.inner).right

pub offset-requires-2-clause-low : goal.offset-requires-2-clause-low
offset-requires-2-clause-low c = (sums c.args.levels c.args.outer.now c.args.inner.now c.faced-faced.result c.faced-faced.ensures.value c.requires.levels c.requires.outer c.requires.inner).low

pub offset-requires-2-clause-high : goal.offset-requires-2-clause-high
offset-requires-2-clause-high c = (sums c.args.levels c.args.outer.now c.args.inner.now c.faced-faced.result c.faced-faced.ensures.value c.requires.levels c.requires.outer c.requires.inner).high
