use Rattle.std.proofs.Common.{ℕ, subst}
use Rattle.log_check.specs.Items.{HasSeen, empty_log}
use Rattle.log_check.proofs.checker.Checker.begin.Goals as goal

pub returns-clause-seen : goal.returns-clause-seen
returns-clause-seen g c =
    subst (λ (version : ℕ). HasSeen (g.B.RowBound.value c.args.bound) c.begin.new.self (empty_log version)) c.version.ensures (c.begin.ensures.seen (g.B.RowBound.value c.args.bound))

pub invariant_of-self : goal.invariant_of-self
invariant_of-self g c = c.new.ensures (g.B.RowBound.trails_of c.args.bound) c.begin.new.self.kinds
