use Rattle.std.proofs.Common.{All, take}
use Rattle.row_cycles.specs.declared.above.NetAbove.{NetAbove}
use Rattle.row_cycles.specs.Above.{IsAbove}
use Rattle.row_cycles.proofs.down.some_leads_back.Given as goal

abbrev pub invariant-loop-a : goal.invariant-loop-a
invariant-loop-a l = All (λ (a : NetAbove). IsAbove l.above a.upper a.upper → ⊥) (take l.a-index l.from)
