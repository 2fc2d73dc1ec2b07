use Rattle.std.proofs.Common.{◌≡◌, ap, subst, sym, ◌∙◌}
use Rattle.std.proofs.lemmas.Bool.{both_ways}
use Rattle.row_state.specs.Start.{IsState}
use Rattle.row_state.specs.Steps.{state_after}
use Rattle.track_ways.specs.States.{is_still_ahead}
use Rattle.track_ways.specs.Certificate.{NeedsMore}
use Rattle.track_ways.proofs.Crowded.{none_through}
use Rattle.track_check.proofs.Failing.{bare_fail, crowded_fail, known_fail, more_fail}
use Rattle.row_cycles.proofs.Loops.{yes_from}
use Rattle.row_cycles.proofs.Noted.{noted_here}
use Rattle.track_check.specs.Noted.{state_of}
use Rattle.track_check.proofs.steps.ways_fail.Goals as goal

pub returns-then-needs_more : goal.returns-then-needs_more
returns-then-needs_more g c =
    let after : c.in_ok-after.after.state ≡ state_after c.args.grounds.now.kinds.now c.args.lemma.now.state c.args.next.now.step = c.in_ok-after.ensures.state ∙ ap (λ s. state_after c.args.grounds.now.kinds.now s c.args.next.now.step) c.requires.state in
    yes_from (more_fail g.R.TrackRule.ways (g.B.GapBound.value c.args.grounds.now.bound.now) c.args.grounds.now.pins.now c.args.grounds.now.limit c.args.grounds.now.kinds.now c.args.earlier.now.lemmas.now c.args.lemma.now c.args.next.now.step c.args.left
    (subst (λ s. NeedsMore (g.B.GapBound.value c.args.grounds.now.bound.now) c.args.grounds.now.kinds.now s c.args.left) after (c.needs_more.ensures.0 c.if-needs_more.true)))

pub covers-requires : goal.covers-requires
covers-requires g c = noted_here state_of c.args.grounds.now.kinds.now c.args.earlier.now.lemmas.now c.args.earlier.now.places.now c.in_ok-after.after c.in_ok-after.ensures.numbered.code c.requires.noted

pub returns-then-covers : goal.returns-then-covers
returns-then-covers g c =
    let after : c.in_ok-after.after.state ≡ state_after c.args.grounds.now.kinds.now c.args.lemma.now.state c.args.next.now.step = c.in_ok-after.ensures.state ∙ ap (λ s. state_after c.args.grounds.now.kinds.now s c.args.next.now.step) c.requires.state in
    yes_from (bare_fail g.R.TrackRule.ways (g.B.GapBound.value c.args.grounds.now.bound.now) c.args.grounds.now.pins.now c.args.grounds.now.limit c.args.grounds.now.kinds.now c.args.earlier.now.lemmas.now c.args.lemma.now c.args.next.now.step c.args.left c.in_ok-after.after.state after (c.covers.ensures.0 c.if-covers.true))

pub step_uncrowded-requires : goal.step_uncrowded-requires
step_uncrowded-requires g c =
    let after : c.in_ok-after.after.state ≡ state_after c.args.grounds.now.kinds.now c.args.lemma.now.state c.args.next.now.step = c.in_ok-after.ensures.state ∙ ap (λ s. state_after c.args.grounds.now.kinds.now s c.args.next.now.step) c.requires.state in
    record {
      state = subst (IsState c.args.grounds.now.kinds.now) c.requires.state c.requires.numbered.valid;
      before = c.requires.before;
      after = c.nets_ahead-ahead.ensures c.args.grounds.now.kinds.now c.in_ok-after.after.state c.touches-here.ensures.touches ∙ ap (is_still_ahead c.args.grounds.now.kinds.now) after;
    }

pub returns-then-not-branch : goal.returns-then-not-branch
returns-then-not-branch g c = yes_from (crowded_fail g.R.TrackRule.ways (g.B.GapBound.value c.args.grounds.now.bound.now) c.args.grounds.now.pins.now c.args.grounds.now.limit c.args.grounds.now.kinds.now c.args.earlier.now.lemmas.now c.args.lemma.now c.args.next.now.step c.args.left (none_through g.met.R.TrackRule.is_rule c.args.grounds.now.pins.now c.args.grounds.now.limit c.args.grounds.now.kinds.now c.args.lemma.now.state c.args.next.now.step c.args.lemma.now.tracks c.show_limits.ensures (subst (IsState c.args.grounds.now.kinds.now) c.requires.state c.requires.numbered.valid) (sym c.in_ok-step_uncrowded.ensures.is ∙ c.if-not-branch.true)))

pub all_after-requires : goal.all_after-requires
all_after-requires g c =
    let after : c.in_ok-after.after.state ≡ state_after c.args.grounds.now.kinds.now c.args.lemma.now.state c.args.next.now.step = c.in_ok-after.ensures.state ∙ ap (λ s. state_after c.args.grounds.now.kinds.now s c.args.next.now.step) c.requires.state in
    record {
      ready = noted_here state_of c.args.grounds.now.kinds.now c.args.earlier.now.lemmas.now c.args.earlier.now.places.now c.in_ok-after.after c.in_ok-after.ensures.numbered.code c.requires.noted;
      state = subst (IsState c.args.grounds.now.kinds.now) c.requires.state c.requires.numbered.valid;
      before = c.requires.before;
      behind = c.nets_ahead-ahead.ensures c.args.grounds.now.kinds.now c.in_ok-after.after.state c.touches-here.ensures.touches ∙ ap (is_still_ahead c.args.grounds.now.kinds.now) after;
    }

pub returns : goal.returns
returns g c =
    let after : c.in_ok-after.after.state ≡ state_after c.args.grounds.now.kinds.now c.args.lemma.now.state c.args.next.now.step = c.in_ok-after.ensures.state ∙ ap (λ s. state_after c.args.grounds.now.kinds.now s c.args.next.now.step) c.requires.state in
    known_fail g.R.TrackRule.ways (g.B.GapBound.value c.args.grounds.now.bound.now) c.args.grounds.now.pins.now c.args.grounds.now.limit c.args.grounds.now.kinds.now c.args.earlier.now.lemmas.now c.args.lemma.now c.args.next.now.step c.args.left c.in_ok-after.after.state c.in_ok-all.all after (λ more. both_ways c.needs_more.result c.if-needs_more.false (c.needs_more.ensures.1 more)) c.in_ok-all.ensures
