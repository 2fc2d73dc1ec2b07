use Rattle.std.proofs.lemmas.List.Elements.{All-get_or, All-more}
use Rattle.std.proofs.lemmas.Bool.{both_ways}
use Rattle.row_cycles.specs.Above.{HasNets}
use Rattle.row_cycles.proofs.Loops.{all_end, no_from, yes_from}
use Rattle.row_cycles.proofs.justified.have_nets.Goals as goal

pub returns-then-not-has_nets : goal.returns-then-not-has_nets
returns-then-not-has_nets c = no_from (λ all. both_ways c.has_nets.result c.if-not-has_nets.true (c.has_nets.ensures.1 (All-get_or (HasNets c.args.nets) c.args.above.now c.loop-a.a-index _ c.loop-a-test.true all)))

pub loop-a-preserved : goal.loop-a-preserved
loop-a-preserved c = All-more (HasNets c.args.nets) c.args.above.now c.loop-a.a-index _ c.loop-a-test.true c.loop-a.invariant (c.has_nets.ensures.0 c.if-not-has_nets.false)

pub returns : goal.returns
returns c = yes_from (all_end (HasNets c.args.nets) c.args.above.now c.loop-a.a-index c.loop-a-test.false c.loop-a.invariant)
