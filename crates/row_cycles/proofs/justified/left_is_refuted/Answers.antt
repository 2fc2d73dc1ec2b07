use Rattle.std.proofs.Common.{◌≡◌, ◌++◌, ◌∙◌, ap, inl, inr, subst, sym}
use Rattle.std.proofs.lemmas.Bool.{both_ways}
use Rattle.row_state.specs.Start.{IsState}
use Rattle.row_state.specs.Steps.{state_after}
use Rattle.track_ways.specs.Certificate.{NeedsMore}
use Rattle.track_ways.specs.Paths.{lines_to}
use Rattle.row_cycles.specs.Above.{HasCycle, above_of, above_step}
use Rattle.row_cycles.specs.Noted.{state_of}
use Rattle.row_cycles.proofs.Loops.{yes_from}
use Rattle.row_cycles.proofs.Nets.{both_nets, step_nets}
use Rattle.row_cycles.proofs.Noted.{noted_here}
use Rattle.row_cycles.proofs.Refuted.{first_part, first_within, left_decides}
use Rattle.row_cycles.proofs.justified.left_is_refuted.Goals as goal

pub has_cycle_from-requires : goal.has_cycle_from-requires
has_cycle_from-requires g c =
    let grown : c.add_step.new.above ≡ c.args.lemma.now.above ++ above_step c.args.grounds.now.pins.now c.args.grounds.now.kinds.now c.args.lemma.now.state c.args.next.now.step = c.in_ok-add_step.ensures ∙ ap (λ xs. xs ++ above_of c.args.grounds.now.pins.now (lines_to c.args.lemma.now.state c.args.next.now.column)) c.in_ok-above.ensures ∙ ap (λ column. c.args.lemma.now.above ++ above_of c.args.grounds.now.pins.now (lines_to c.args.lemma.now.state column)) c.requires.next.column in
    record {
      nets = both_nets c.args.grounds.now.kinds.now c.args.lemma.now.above (above_step c.args.grounds.now.pins.now c.args.grounds.now.kinds.now c.args.lemma.now.state c.args.next.now.step) c.as_slice.result.now c.show_limits.ensures c.requires.nets (step_nets c.args.grounds.now.pins.now c.args.grounds.now.kinds.now c.args.lemma.now.state c.args.next.now.step c.show_limits.ensures (subst (IsState c.args.grounds.now.kinds.now) c.requires.state c.requires.numbered.valid)) (c.as_slice.ensures ∙ grown);
      within = first_within c.args.lemma.now.above (above_step c.args.grounds.now.pins.now c.args.grounds.now.kinds.now c.args.lemma.now.state c.args.next.now.step) c.as_slice.result.now c.len.result c.len.ensures (c.as_slice.ensures ∙ grown);
      first = λ cycle. c.requires.none (subst HasCycle (first_part c.args.lemma.now.above (above_step c.args.grounds.now.pins.now c.args.grounds.now.kinds.now c.args.lemma.now.state c.args.next.now.step) c.as_slice.result.now c.len.result c.len.ensures (c.as_slice.ensures ∙ grown)) cycle);
    }

pub returns-then-has_cycle_from : goal.returns-then-has_cycle_from
returns-then-has_cycle_from g c =
    let grown : c.add_step.new.above ≡ c.args.lemma.now.above ++ above_step c.args.grounds.now.pins.now c.args.grounds.now.kinds.now c.args.lemma.now.state c.args.next.now.step = c.in_ok-add_step.ensures ∙ ap (λ xs. xs ++ above_of c.args.grounds.now.pins.now (lines_to c.args.lemma.now.state c.args.next.now.column)) c.in_ok-above.ensures ∙ ap (λ column. c.args.lemma.now.above ++ above_of c.args.grounds.now.pins.now (lines_to c.args.lemma.now.state column)) c.requires.next.column in
    yes_from (inr (inl (subst HasCycle (c.as_slice.ensures ∙ grown) (c.has_cycle_from.ensures.0 c.if-has_cycle_from.true))))

pub returns-then-needs_more : goal.returns-then-needs_more
returns-then-needs_more g c =
    let after : c.in_ok-after.after.state ≡ state_after c.args.grounds.now.kinds.now c.args.lemma.now.state c.args.next.now.step = c.in_ok-after.ensures.state ∙ ap (λ s. state_after c.args.grounds.now.kinds.now s c.args.next.now.step) c.requires.state in
    yes_from (inl (subst (λ s. NeedsMore (g.B.GapBound.value c.args.grounds.now.bound.now) c.args.grounds.now.kinds.now s c.args.left) after (c.needs_more.ensures.0 c.if-needs_more.true)))

pub covers-requires : goal.covers-requires
covers-requires g c =
    let grown : c.add_step.new.above ≡ c.args.lemma.now.above ++ above_step c.args.grounds.now.pins.now c.args.grounds.now.kinds.now c.args.lemma.now.state c.args.next.now.step = c.in_ok-add_step.ensures ∙ ap (λ xs. xs ++ above_of c.args.grounds.now.pins.now (lines_to c.args.lemma.now.state c.args.next.now.column)) c.in_ok-above.ensures ∙ ap (λ column. c.args.lemma.now.above ++ above_of c.args.grounds.now.pins.now (lines_to c.args.lemma.now.state column)) c.requires.next.column in
    record {
      noted = noted_here state_of c.args.grounds.now.kinds.now c.args.earlier.now.lemmas.now c.args.earlier.now.places.now c.in_ok-after.after c.in_ok-after.ensures.numbered.code c.requires.noted;
      nets = both_nets c.args.grounds.now.kinds.now c.args.lemma.now.above (above_step c.args.grounds.now.pins.now c.args.grounds.now.kinds.now c.args.lemma.now.state c.args.next.now.step) c.as_slice-2.result.now c.show_limits.ensures c.requires.nets (step_nets c.args.grounds.now.pins.now c.args.grounds.now.kinds.now c.args.lemma.now.state c.args.next.now.step c.show_limits.ensures (subst (IsState c.args.grounds.now.kinds.now) c.requires.state c.requires.numbered.valid)) (c.as_slice-2.ensures ∙ grown);
    }

pub returns : goal.returns
returns g c =
    let grown : c.add_step.new.above ≡ c.args.lemma.now.above ++ above_step c.args.grounds.now.pins.now c.args.grounds.now.kinds.now c.args.lemma.now.state c.args.next.now.step = c.in_ok-add_step.ensures ∙ ap (λ xs. xs ++ above_of c.args.grounds.now.pins.now (lines_to c.args.lemma.now.state c.args.next.now.column)) c.in_ok-above.ensures ∙ ap (λ column. c.args.lemma.now.above ++ above_of c.args.grounds.now.pins.now (lines_to c.args.lemma.now.state column)) c.requires.next.column in
    let after : c.in_ok-after.after.state ≡ state_after c.args.grounds.now.kinds.now c.args.lemma.now.state c.args.next.now.step = c.in_ok-after.ensures.state ∙ ap (λ s. state_after c.args.grounds.now.kinds.now s c.args.next.now.step) c.requires.state in
    left_decides (g.B.GapBound.value c.args.grounds.now.bound.now) c.args.grounds.now.pins.now c.args.grounds.now.kinds.now c.args.earlier.now.lemmas.now c.args.lemma.now c.args.next.now.step c.args.left c.in_ok-after.after.state c.as_slice-2.result.now c.covers.result after (c.as_slice-2.ensures ∙ grown)
    (λ cycle. both_ways c.has_cycle_from.result c.if-has_cycle_from.false (c.has_cycle_from.ensures.1 (subst HasCycle (c.as_slice-2.ensures ∙ sym c.as_slice.ensures) cycle)))
    (λ more. both_ways c.needs_more.result c.if-needs_more.false (c.needs_more.ensures.1 more))
    c.covers.ensures
