use Rattle.std.proofs.lemmas.List.Elements.{All-more}
use Rattle.std.proofs.lemmas.Bool.{both_ways}
use Rattle.row_cycles.specs.declared.above.NetAbove.{NetAbove}
use Rattle.row_cycles.specs.Above.{IsAbove}
use Rattle.row_cycles.proofs.Loops.{no_from, none_any}
use Rattle.row_cycles.proofs.down.some_leads_back.Goals as goal

pub loop-a-preserved : goal.loop-a-preserved
loop-a-preserved c = All-more (λ (a : NetAbove). IsAbove c.args.above.now a.upper a.upper → ⊥) c.args.from.now c.loop-a.a-index _ c.loop-a-test.true c.loop-a.invariant (λ h. both_ways c.is_above.result c.if-is_above.false (c.is_above.ensures.1 h))

pub returns : goal.returns
returns c = no_from (none_any (λ (a : NetAbove). IsAbove c.args.above.now a.upper a.upper) c.args.from.now c.loop-a.a-index c.loop-a-test.false c.loop-a.invariant)
