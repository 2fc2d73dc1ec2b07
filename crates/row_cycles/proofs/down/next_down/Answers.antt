use Rattle.std.proofs.lemmas.List.Elements.{All-more}
use Rattle.std.proofs.lemmas.Bool.{both_ways}
use Rattle.row_cycles.specs.declared.above.NetAbove.{NetAbove}
use Rattle.row_cycles.specs.Down.{IsNew}
use Rattle.row_cycles.proofs.Loops.{all_end}
use Rattle.row_cycles.proofs.down.next_down.Goals as goal

pub loop-a-preserved : goal.loop-a-preserved
loop-a-preserved c = All-more (λ (a : NetAbove). IsNew c.args.upper c.args.found.now a → ⊥) c.args.above.now c.loop-a.a-index _ c.loop-a-test.true c.loop-a.invariant (λ new. both_ways c.is_new.result c.if-is_new.false (c.is_new.ensures.1 new))

pub returns-clause-none : goal.returns-clause-none
returns-clause-none c = all_end (λ (a : NetAbove). IsNew c.args.upper c.args.found.now a → ⊥) c.args.above.now c.loop-a.a-index c.loop-a-test.false c.loop-a.invariant
