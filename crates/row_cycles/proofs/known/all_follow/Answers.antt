use Rattle.std.proofs.lemmas.List.Elements.{All-get_or, All-more}
use Rattle.std.proofs.lemmas.Bool.{both_ways}
use Rattle.row_cycles.specs.Above.{Follows}
use Rattle.row_cycles.proofs.Loops.{all_end, no_from, yes_from}
use Rattle.row_cycles.proofs.known.all_follow.Goals as goal

pub returns-then-not-is_above : goal.returns-then-not-is_above
returns-then-not-is_above c = no_from (λ all. both_ways c.is_above.result c.if-not-is_above.true (c.is_above.ensures.1 (All-get_or (Follows c.args.above.now) c.args.pairs.now c.loop-pair.pair-index _ c.loop-pair-test.true all)))

pub loop-pair-preserved : goal.loop-pair-preserved
loop-pair-preserved c = All-more (Follows c.args.above.now) c.args.pairs.now c.loop-pair.pair-index _ c.loop-pair-test.true c.loop-pair.invariant (c.is_above.ensures.0 c.if-not-is_above.false)

pub returns : goal.returns
returns c = yes_from (all_end (Follows c.args.above.now) c.args.pairs.now c.loop-pair.pair-index c.loop-pair-test.false c.loop-pair.invariant)
