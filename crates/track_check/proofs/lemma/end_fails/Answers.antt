use Rattle.std.proofs.Common.{sym, ◌∙◌}
use Rattle.std.proofs.lemmas.Bool.{both_ways}
use Rattle.track_ways.proofs.Crowded.{none_at_end}
use Rattle.row_cycles.proofs.Loops.{yes_from}
use Rattle.track_check.proofs.lemma.end_fails.Goals as goal

pub returns-then-has_fingers : goal.returns-then-has_fingers
returns-then-has_fingers g c = yes_from (λ none. absurd (none ((c.has_fingers.ensures c.args.grounds.now.kinds.now c.requires.valid).0 c.if-has_fingers.true)))

pub returns-then-not-branch : goal.returns-then-not-branch
returns-then-not-branch g c = yes_from (λ none. none_at_end g.met.R.TrackRule.is_rule c.args.grounds.now.pins.now c.args.grounds.now.limit c.args.grounds.now.kinds.now c.args.lemma.now.state c.args.lemma.now.tracks c.show_limits.ensures c.requires.valid (sym c.in_ok-end_uncrowded.ensures.is ∙ c.if-not-branch.true))

pub returns : goal.returns
returns g c = (
  λ e none. c.in_ok-none.ensures.0 e,
  λ h. c.in_ok-none.ensures.1 (h (λ has. both_ways c.has_fingers.result c.if-has_fingers.false ((c.has_fingers.ensures c.args.grounds.now.kinds.now c.requires.valid).1 has))),
)
