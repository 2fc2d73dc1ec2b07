use Rattle.std.proofs.Common.{◌∙◌, Any, subst, sym}
use Rattle.std.proofs.lemmas.Bool.{both_ways}
use Rattle.row_state.specs.Start.{start_of}
use Rattle.track_ways.specs.Certificate.{AreJustifiedBy, CoversAll}
use Rattle.track_ways.proofs.Sound.{lemmas_true_by, start_fails_by}
use Rattle.track_check.specs.Noted.{AreNoted, state_of}
use Rattle.track_check.specs.Refusal.{IsFirstUnjustifiedBy}
use Rattle.track_check.specs.Touches.{AreTouches}
use Rattle.track_check.proofs.Failing.{bare_is_all}
use Rattle.row_cycles.proofs.Noted.{noted_here}
use Rattle.track_check.proofs.check.check_tracks_by.Goals as goal

pub first_unjustified-requires : goal.first_unjustified-requires
first_unjustified-requires g c = record { candidates = c.in_ok-candidates.ensures.candidates; all = subst (λ s. AreTouches c.args.kinds.now s c.touches-all.result) c.in_ok-first.ensures.state c.touches-all.ensures.touches }

pub covers-requires : goal.covers-requires
covers-requires g c =
    let noted : AreNoted c.args.kinds.now c.as_slice-lemmas.result.now c.first_unjustified.new.places = rw c.in_default.is at c.in_ok-unjustified.ensures.noted in
    noted_here state_of c.args.kinds.now c.as_slice-lemmas.result.now c.first_unjustified.new.places c.new-from.result c.new-from.ensures.numbered.code noted

pub returns-in-Some-clause-refused : goal.returns-in-Some-clause-refused
returns-in-Some-clause-refused g c = λ other.
    let listed : IsFirstUnjustifiedBy g.R.TrackRule.fits (g.B.GapBound.value c.args.bound.now) c.args.pins.now c.args.limit c.args.kinds.now c.as_slice-lemmas.result.now c.in-Some.at = rw c.in-Some.is at c.in_ok-unjustified.ensures.first in
    subst (λ xs. IsFirstUnjustifiedBy g.R.TrackRule.fits (g.B.GapBound.value c.args.bound.now) c.args.pins.now c.args.limit c.args.kinds.now xs c.in-Some.at) c.as_slice-lemmas.ensures listed

pub returns-then-not-covers-clause-refused : goal.returns-then-not-covers-clause-refused
returns-then-not-covers-clause-refused g c = λ other.
    let listed : AreJustifiedBy g.R.TrackRule.fits (g.B.GapBound.value c.args.bound.now) c.args.pins.now c.args.limit c.args.kinds.now c.as_slice-lemmas.result.now = rw c.in_default.is at c.in_ok-unjustified.ensures.none in
    let justified : AreJustifiedBy g.R.TrackRule.fits (g.B.GapBound.value c.args.bound.now) c.args.pins.now c.args.limit c.args.kinds.now c.args.lemmas.now = subst (AreJustifiedBy g.R.TrackRule.fits (g.B.GapBound.value c.args.bound.now) c.args.pins.now c.args.limit c.args.kinds.now) c.as_slice-lemmas.ensures listed in
    record {
      justified = justified;
      whole = λ any. both_ways c.covers.result c.if-not-covers.true (c.covers.ensures.1 ((bare_is_all c.new-from.result.state c.args.gaps c.as_slice-lemmas.result.now).1 (subst (λ s. Any (CoversAll s c.args.gaps) c.as_slice-lemmas.result.now) (sym (c.new-from.ensures.state ∙ c.in_ok-first.ensures.state)) (subst (Any (CoversAll (start_of c.args.kinds.now) c.args.gaps)) (sym c.as_slice-lemmas.ensures) any))));
    }

pub returns-clause-certified : goal.returns-clause-certified
returns-clause-certified g c =
    let listed : AreJustifiedBy g.R.TrackRule.fits (g.B.GapBound.value c.args.bound.now) c.args.pins.now c.args.limit c.args.kinds.now c.as_slice-lemmas.result.now = rw c.in_default.is at c.in_ok-unjustified.ensures.none in
    let justified : AreJustifiedBy g.R.TrackRule.fits (g.B.GapBound.value c.args.bound.now) c.args.pins.now c.args.limit c.args.kinds.now c.args.lemmas.now = subst (AreJustifiedBy g.R.TrackRule.fits (g.B.GapBound.value c.args.bound.now) c.args.pins.now c.args.limit c.args.kinds.now) c.as_slice-lemmas.ensures listed in
    let some : Any (CoversAll c.new-from.result.state c.args.gaps) c.as_slice-lemmas.result.now = (bare_is_all c.new-from.result.state c.args.gaps c.as_slice-lemmas.result.now).0 (c.covers.ensures.0 c.if-not-covers.false) in
    let whole : Any (CoversAll (start_of c.args.kinds.now) c.args.gaps) c.args.lemmas.now = subst (λ s. Any (CoversAll s c.args.gaps) c.args.lemmas.now) (c.new-from.ensures.state ∙ c.in_ok-first.ensures.state) (subst (Any (CoversAll c.new-from.result.state c.args.gaps)) c.as_slice-lemmas.ensures some) in
    record { justified = justified; whole = whole }

pub returns-clause-fails : goal.returns-clause-fails
returns-clause-fails g c = λ track.
    let listed : AreJustifiedBy g.R.TrackRule.fits (g.B.GapBound.value c.args.bound.now) c.args.pins.now c.args.limit c.args.kinds.now c.as_slice-lemmas.result.now = rw c.in_default.is at c.in_ok-unjustified.ensures.none in
    let justified : AreJustifiedBy g.R.TrackRule.fits (g.B.GapBound.value c.args.bound.now) c.args.pins.now c.args.limit c.args.kinds.now c.args.lemmas.now = subst (AreJustifiedBy g.R.TrackRule.fits (g.B.GapBound.value c.args.bound.now) c.args.pins.now c.args.limit c.args.kinds.now) c.as_slice-lemmas.ensures listed in
    let some : Any (CoversAll c.new-from.result.state c.args.gaps) c.as_slice-lemmas.result.now = (bare_is_all c.new-from.result.state c.args.gaps c.as_slice-lemmas.result.now).0 (c.covers.ensures.0 c.if-not-covers.false) in
    let whole : Any (CoversAll (start_of c.args.kinds.now) c.args.gaps) c.args.lemmas.now = subst (λ s. Any (CoversAll s c.args.gaps) c.args.lemmas.now) (c.new-from.ensures.state ∙ c.in_ok-first.ensures.state) (subst (Any (CoversAll c.new-from.result.state c.args.gaps)) c.as_slice-lemmas.ensures some) in
    start_fails_by g.R.TrackRule.fits g.met.R.TrackRule.is_rule.again (g.B.GapBound.value c.args.bound.now) c.args.pins.now c.args.kinds.now c.args.limit c.args.gaps c.args.lemmas.now track (λ row s state. c.show_holds.ensures row s c.args.kinds.now c.show_limits.ensures state) c.show_limits.ensures (record { justified = justified; whole = whole })

pub returns-clause-lemmas : goal.returns-clause-lemmas
returns-clause-lemmas g c =
    let listed : AreJustifiedBy g.R.TrackRule.fits (g.B.GapBound.value c.args.bound.now) c.args.pins.now c.args.limit c.args.kinds.now c.as_slice-lemmas.result.now = rw c.in_default.is at c.in_ok-unjustified.ensures.none in
    let justified : AreJustifiedBy g.R.TrackRule.fits (g.B.GapBound.value c.args.bound.now) c.args.pins.now c.args.limit c.args.kinds.now c.args.lemmas.now = subst (AreJustifiedBy g.R.TrackRule.fits (g.B.GapBound.value c.args.bound.now) c.args.pins.now c.args.limit c.args.kinds.now) c.as_slice-lemmas.ensures listed in
    lemmas_true_by g.R.TrackRule.fits g.met.R.TrackRule.is_rule.again (g.B.GapBound.value c.args.bound.now) c.args.pins.now c.args.limit c.args.kinds.now c.args.lemmas.now (λ row s state. c.show_holds.ensures row s c.args.kinds.now c.show_limits.ensures state) c.show_limits.ensures justified
