use Rattle.std.proofs.Common.{All, arith, subst, sym}
use Rattle.std.proofs.lemmas.Bool.{both_ways}
use Rattle.row_cycles.specs.Above.{Follows}
use Rattle.row_cycles.proofs.Loops.{no_from}
use Rattle.row_cycles.proofs.known.covers.Goals as goal

pub returns-then-lemma-gaps : goal.returns-then-lemma-gaps
returns-then-lemma-gaps c = no_from (λ h. absurd (omega (arith, h.enough, c.if-lemma-gaps.true)))

pub returns-then-not-is_same : goal.returns-then-not-is_same
returns-then-not-is_same c = no_from (λ h. both_ways c.is_same.result c.if-not-is_same.true (c.is_same.ensures.1 h.state))

pub returns : goal.returns
returns c = (
  λ e. record { state = c.is_same.ensures.0 c.if-not-is_same.false; enough = omega (arith, c.if-lemma-gaps.false); follow = subst (All (Follows c.args.above.now)) c.as_slice.ensures (c.all_follow.ensures.0 e) },
  λ h. c.all_follow.ensures.1 (subst (All (Follows c.args.above.now)) (sym c.as_slice.ensures) h.follow),
)
