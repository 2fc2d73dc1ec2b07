use Rattle.std.proofs.lemmas.List.Elements.{All-get_or, All-more}
use Rattle.std.proofs.lemmas.Bool.{both_ways}
use Rattle.row_cycles.proofs.Loops.{all_end, no_from, yes_from}
use Rattle.cycle_search.specs.Below.{HasPair}
use Rattle.cycle_search.proofs.below.Below.has_all.Goals as goal

pub returns-then-not-has : goal.returns-then-not-has
returns-then-not-has c = no_from (λ all. both_ways c.has.result c.if-not-has.true (c.has.ensures.1 (All-get_or (HasPair c.args.self.now) c.args.pairs.now c.loop-a.a-index _ c.loop-a-test.true all)))

pub loop-a-preserved : goal.loop-a-preserved
loop-a-preserved c = All-more (HasPair c.args.self.now) c.args.pairs.now c.loop-a.a-index _ c.loop-a-test.true c.loop-a.invariant (c.has.ensures.0 c.if-not-has.false)

pub returns : goal.returns
returns c = yes_from (all_end (HasPair c.args.self.now) c.args.pairs.now c.loop-a.a-index c.loop-a-test.false c.loop-a.invariant)
