use Rattle.std.proofs.Common.{All, take}
use Rattle.row_cycles.specs.declared.above.NetAbove.{NetAbove}
use Rattle.row_cycles.specs.Down.{IsNew}
use Rattle.row_cycles.proofs.down.next_down.Given as goal

abbrev pub invariant-loop-a : goal.invariant-loop-a
invariant-loop-a l = All (λ (a : NetAbove). IsNew l.upper l.found a → ⊥) (take l.a-index l.above)
