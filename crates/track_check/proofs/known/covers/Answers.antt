use Rattle.std.proofs.Common.{All, Contains, arith, subst, sym}
use Rattle.std.proofs.lemmas.Bool.{both_ways}
use Rattle.row_cycles.proofs.Loops.{no_from}
use Rattle.track_check.proofs.known.covers.Goals as goal

pub returns-then-not-is_same : goal.returns-then-not-is_same
returns-then-not-is_same c = no_from (λ h. both_ways c.is_same.result c.if-not-is_same.true (c.is_same.ensures.1 h.state))

pub returns-then-lemma-gaps : goal.returns-then-lemma-gaps
returns-then-lemma-gaps c = no_from (λ h. absurd (omega (arith, h.enough, c.if-lemma-gaps.true)))

pub returns : goal.returns
returns c = (
  λ e. record { state = c.is_same.ensures.0 c.if-not-is_same.false; enough = omega (arith, c.if-lemma-gaps.false); tracks = subst (All (Contains c.args.way.now)) c.as_slice.ensures (c.lists.ensures.0 e) },
  λ h. c.lists.ensures.1 (subst (All (Contains c.args.way.now)) (sym c.as_slice.ensures) h.tracks),
)
