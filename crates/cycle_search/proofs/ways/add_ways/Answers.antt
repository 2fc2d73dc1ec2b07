use Rattle.std.proofs.Common.{take, ◌++◌}
use Rattle.std.proofs.lemmas.List.Elements.{All-more, All-nil}
use Rattle.row_cycles.specs.Above.{Follows}
use Rattle.row_cycles.proofs.Loops.{all_end}
use Rattle.cycle_search.proofs.Needs.{adds_none, adds_on, follow_still}
use Rattle.cycle_search.proofs.ways.add_ways.Goals as goal

pub loop-pair-init : goal.loop-pair-init
loop-pair-init c = (adds_none c.args.asked.now.pairs c.args.need.now, All-nil (Follows (c.args.need.now ++ c.args.new.now)))

pub returns-then-not-branch-clause-adds : goal.returns-then-not-branch-clause-adds
returns-then-not-branch-clause-adds c = (adds_on c.args.asked.now.pairs c.args.need.now c.loop-pair.need c.add_way.new.need c.loop-pair.invariant.0 c.in_ok-add_way.ensures.adds)

pub loop-pair-preserved : goal.loop-pair-preserved
loop-pair-preserved c = (
  (adds_on c.args.asked.now.pairs c.args.need.now c.loop-pair.need c.add_way.new.need c.loop-pair.invariant.0 c.in_ok-add_way.ensures.adds),
  All-more (Follows (c.add_way.new.need ++ c.args.new.now)) c.args.pairs.now c.loop-pair.pair-index _ c.loop-pair-test.true
      (follow_still c.args.asked.now.pairs c.loop-pair.need c.add_way.new.need c.args.new.now (take c.loop-pair.pair-index c.args.pairs.now) c.in_ok-add_way.ensures.adds c.loop-pair.invariant.1)
      (c.in_ok-add_way.ensures.follows c.if-not-branch.false),
)

pub returns-clause-follow : goal.returns-clause-follow
returns-clause-follow c = λ e. all_end (Follows (c.loop-pair.need ++ c.args.new.now)) c.args.pairs.now c.loop-pair.pair-index c.loop-pair-test.false c.loop-pair.invariant.1
