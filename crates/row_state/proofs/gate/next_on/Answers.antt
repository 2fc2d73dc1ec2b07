use Rattle.std.proofs.Common.{subst, sym, ◌∙◌}
use Rattle.row_state.specs.Runs.{IsNext}
use Rattle.row_state.proofs.Gates.{next_is}
use Rattle.row_state.proofs.gate.next_on.Goals as goal

pub returns-in-Some-clause-next : goal.returns-in-Some-clause-next
returns-in-Some-clause-next c =
    subst (IsNext c.args.kinds.now c.args.cursor.now) (sym c.on_gate.ensures.gate)
    (next_is c.args.kinds.now c.args.cursor.now c.in-Some.gate c.show_limits.ensures c.requires.cursor (sym c.next_gate.ensures ∙ c.in-Some.is))
