use Rattle.std.proofs.Common.{inl, inr, subst, sym, ◌∙◌}
use Rattle.std.proofs.lemmas.Bool.{both_ways}
use Rattle.row_state.specs.Start.{IsState}
use Rattle.track_ways.specs.Certificate.{NeedsMore}
use Rattle.row_cycles.proofs.Loops.{no_from, yes_from}
use Rattle.track_check.proofs.lemma.is_justified_at.Goals as goal

pub returns-then-not-is_valid : goal.returns-then-not-is_valid
returns-then-not-is_valid g c = no_from (λ j. both_ways c.is_valid.result c.if-not-is_valid.true (c.is_valid.ensures.1 j.valid))

pub new-from-requires : goal.new-from-requires
new-from-requires g c = record { state = subst (IsState c.args.grounds.now.kinds.now) (sym c.in_ok-state.ensures) c.requires.valid }

pub branches-requires-clause-state : goal.branches-requires-clause-state
branches-requires-clause-state g c = c.new-from.ensures.state ∙ c.in_ok-state.ensures

pub returns-then-needs_more : goal.returns-then-needs_more
returns-then-needs_more g c = yes_from (record { valid = c.is_valid.ensures.0 c.if-not-is_valid.false; holds = inl (subst (λ s. NeedsMore (g.B.GapBound.value c.args.grounds.now.bound.now) c.args.grounds.now.kinds.now s c.args.lemma.now.gaps) (c.new-from.ensures.state ∙ c.in_ok-state.ensures) (c.needs_more.ensures.0 c.if-needs_more.true)) })

pub returns : goal.returns
returns g c = (
  λ e. record { valid = c.is_valid.ensures.0 c.if-not-is_valid.false; holds = inr (c.in_ok-fail.ensures.0 e) },
  λ j. c.in_ok-fail.ensures.1 (elim j.holds [ inl more ↦ absurd (both_ways c.needs_more.result c.if-needs_more.false (c.needs_more.ensures.1 (subst (λ s. NeedsMore (g.B.GapBound.value c.args.grounds.now.bound.now) c.args.grounds.now.kinds.now s c.args.lemma.now.gaps) (sym (c.new-from.ensures.state ∙ c.in_ok-state.ensures)) more))) | inr b ↦ b ]),
)
