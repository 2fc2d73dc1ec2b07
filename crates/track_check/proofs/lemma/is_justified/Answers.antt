use Rattle.std.proofs.Common.{◌↔◌}
use Rattle.std.proofs.lemmas.Bool.{both_ways}
use Rattle.track_ways.specs.Certificate.{IsJustifiedBy}
use Rattle.track_ways.specs.Checked.{IsJustifiedListedBy}
use Rattle.track_ways.proofs.Checked.{justified_decided_by}
use Rattle.row_cycles.proofs.Loops.{no_from}
use Rattle.track_check.proofs.lemma.is_justified.Goals as goal

pub returns-then-not-is_state-clause-listed : goal.returns-then-not-is_state-clause-listed
returns-then-not-is_state-clause-listed g c = no_from (λ j. both_ways c.is_state.result c.if-not-is_state.true (c.is_state.ensures.1 j.valid.state))

pub returns-then-not-is_state-clause-justified : goal.returns-then-not-is_state-clause-justified
returns-then-not-is_state-clause-justified g c = λ valid. no_from (λ j. both_ways c.is_state.result c.if-not-is_state.true (c.is_state.ensures.1 j.valid.state))

pub returns-clause-justified : goal.returns-clause-justified
returns-clause-justified g c = λ valid.
    let d : IsJustifiedBy g.R.TrackRule.fits (g.B.GapBound.value c.args.grounds.now.bound.now) c.args.grounds.now.pins.now c.args.grounds.now.limit c.args.grounds.now.kinds.now c.args.earlier.now.lemmas.now c.args.lemma.now ↔ IsJustifiedListedBy g.R.TrackRule.ways (g.B.GapBound.value c.args.grounds.now.bound.now) c.args.grounds.now.pins.now c.args.grounds.now.limit c.args.grounds.now.kinds.now c.args.earlier.now.lemmas.now c.args.lemma.now = justified_decided_by g.met.R.TrackRule.is_rule (g.B.GapBound.value c.args.grounds.now.bound.now) c.args.grounds.now.pins.now c.args.grounds.now.limit c.args.grounds.now.kinds.now c.args.earlier.now.lemmas.now c.args.lemma.now c.show_limits.ensures valid in
    ((λ e. d.1 (c.in_ok-justified.ensures.0 e)), (λ j. c.in_ok-justified.ensures.1 (d.0 j)))
