use Rattle.std.proofs.Common.{ℕ, subst}
use Rattle.log_check.specs.Items.{HasSeen, empty_log}
use Rattle.log_check.proofs.checker.Checker.new.Goals as goal

pub returns-clause-seen : goal.returns-clause-seen
returns-clause-seen g c =
    subst (λ (version : ℕ). HasSeen (g.B.RowBound.value c.args.bound) c.in_ok-new.field-0 (empty_log version)) c.version-version.ensures (c.in_ok-new.ensures.seen (g.B.RowBound.value c.args.bound))

pub invariant_of-result : goal.invariant_of-result
invariant_of-result g c = c.new-2.ensures (g.B.RowBound.trails_of c.args.bound) c.in_ok-new.field-0.kinds
