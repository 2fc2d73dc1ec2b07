use Rattle.std.proofs.Common.{◌≡◌, ◌+◌, ap, [], arith, inl, inr, subst, sym, ◌∙◌}
use Rattle.cell_num.specs.Fingers.{columns_of}
use Rattle.row_state.specs.Completion.{Need}
use Rattle.row_state.specs.Start.{columns_left, start_of}
use Rattle.row_state.proofs.Unfold.{columns_same}
use Rattle.trail_log.specs.declared.trails.TrailCertificate.{TrailCertificate}
use Rattle.trail_search.specs.Proof.{IsClosedWithMany, IsUnfinished}
use Rattle.trail_search.specs.declared.found.TrailStop.TheVariants as stopped
use Rattle.trail_search.specs.Ended.{IsTrailFound, Stops, WentForRows, row_units}
use Rattle.trail_search.specs.declared.attempts.Attempts.{Attempts}
use Rattle.trail_search.specs.Searched.{WentForRow, attempts_by}
use Rattle.trail_search.specs.First.{IsFirstRow}
use Rattle.trail_search.specs.Filling.{opened_gates}
use Rattle.trail_search.proofs.Certified.{few_gaps, fewest_proved, found_is, opened_in_vain, row_found, spent_is}
use Rattle.trail_check.specs.Leveled.{open_of}
use Rattle.trail_search.proofs.Proving.{none_opened}
use Rattle.trail_search.proofs.Went.{went_less}
use Rattle.trail_search.proofs.search.search_trails.Goals as goal

pub returns-in-Err-Unfinished-clause-stopped : goal.returns-in-Err-Unfinished-clause-stopped
returns-in-Err-Unfinished-clause-stopped c =
    let told : IsUnfinished c.args.fingers.now c.args.budget c.prove.new.left c.in-Err-Unfinished.proof = rw c.in-Err-Unfinished.field-0-is at c.in-Err-Unfinished.ensures.stopped in
    let is : c.unfinished.result ≡ stopped.Unfinished c.in-Err-Unfinished.proof.trails c.in-Err-Unfinished.proof.gaps = rw c.in-Err-Unfinished.field-0-is at c.unfinished.ensures in
    subst (Stops c.args.fingers.now c.args.budget) (sym is) (spent_is c.in_ok-kinds.kinds c.args.fingers.now c.args.budget c.in-Err-Unfinished.proof c.in_ok-kinds.ensures.kinds c.in_ok-kinds.ensures.sound told.proved (omega (arith, told.units.few)) (inl (omega (arith, told.none, told.units.many))))

pub returns-in-Err-Choices-clause-stopped : goal.returns-in-Err-Choices-clause-stopped
returns-in-Err-Choices-clause-stopped c =
    let told : IsClosedWithMany c.args.fingers.now c.in-Err-Choices.gate = rw c.in-Err-Choices.field-0-is at c.in-Err-Choices.ensures.stopped in
    rw c.in-Err-Choices.field-0-is (inl told)

pub first_row-requires : goal.first_row-requires
first_row-requires c = record { few = few_gaps c.in_ok-kinds.kinds c.args.fingers.now c.in-Ok.proof.gaps c.in_ok-kinds.ensures.kinds c.in_ok-kinds.ensures.sound c.in-Ok.ensures.proof.least }

pub returns-in-Ok-Some-clause-found : goal.returns-in-Ok-Some-clause-found
returns-in-Ok-Some-clause-found c =
    let first : IsFirstRow c.in_ok-kinds.kinds c.in-Ok.proof.gaps c.in-Ok-Some.first = rw c.in-Ok-Some.field-0-is at c.in-Ok-Some.ensures.found in
    subst (λ (z : TrailCertificate). IsTrailFound c.args.fingers.now c.args.budget c.in-Ok-Some.first.row z) (sym c.listing.ensures) (found_is c.in_ok-kinds.kinds c.args.fingers.now c.args.budget c.in-Ok.proof c.in-Ok-Some.first c.in_ok-kinds.ensures.kinds c.in_ok-kinds.ensures.sound c.in-Ok.ensures.proof first (omega (arith, c.in-Ok.ensures.units.few)))

pub returns-in-Some-clause-stopped : goal.returns-in-Some-clause-stopped
returns-in-Some-clause-stopped c =
    let need : Need c.in_ok-kinds.kinds (start_of c.in_ok-kinds.kinds) (c.in-Ok.proof.gaps + 1) = rw c.in-Ok-None.field-0-is at c.in-Ok-None.ensures.none in
    inr (opened_in_vain c.in_ok-kinds.kinds c.args.fingers.now c.in-Ok.proof c.in-Some.gate c.requires c.in_ok-kinds.ensures.kinds c.in_ok-kinds.ensures.sound c.in-Ok.ensures.proof c.in-Ok.ensures.most (sym c.first_opened.ensures ∙ c.in-Some.is) need)

pub unreachable-requires : goal.unreachable-requires
unreachable-requires c =
    let none : (open_of c.args.fingers.now c.in-Ok.proof.trails).gates ≡ [] = none_opened c.args.fingers.now c.in-Ok.proof c.requires c.in-Ok.ensures.proof (sym c.first_opened.ensures ∙ c.in-None.is) in
    let need : Need c.in_ok-kinds.kinds (start_of c.in_ok-kinds.kinds) (c.in-Ok.proof.gaps + 1) = rw c.in-Ok-None.field-0-is at c.in-Ok-None.ensures.none in
    row_found c.in_ok-kinds.kinds c.args.fingers.now c.in-Ok.proof.gaps c.in_ok-kinds.ensures.kinds (fewest_proved c.in_ok-kinds.kinds c.args.fingers.now c.in-Ok.proof c.requires c.in_ok-kinds.ensures.kinds c.in_ok-kinds.ensures.sound c.in-Ok.ensures.proof c.in-Ok.ensures.most none) need

pub returns-in-Err-Spent-clause-stopped : goal.returns-in-Err-Spent-clause-stopped
returns-in-Err-Spent-clause-stopped c =
    let told : WentForRow c.in_ok-kinds.kinds c.attempts.result (c.in-Ok.proof.gaps + 1) c.prove.new.left (columns_left c.in_ok-kinds.kinds (start_of c.in_ok-kinds.kinds)) = rw c.in-Err-Spent.field-0-is at c.in-Err-Spent.ensures.spent in
    let by : c.attempts.result ≡ attempts_by (opened_gates c.args.fingers.now c.in-Ok.proof.trails.order) = c.attempts.ensures ∙ ap attempts_by c.in-Ok.ensures.proof.opened in
    let went : WentForRow c.in_ok-kinds.kinds (attempts_by (opened_gates c.args.fingers.now c.in-Ok.proof.trails.order)) (c.in-Ok.proof.gaps + 1) c.prove.new.left (columns_left c.in_ok-kinds.kinds (start_of c.in_ok-kinds.kinds)) = subst (λ (z : Attempts). WentForRow c.in_ok-kinds.kinds z (c.in-Ok.proof.gaps + 1) c.prove.new.left (columns_left c.in_ok-kinds.kinds (start_of c.in_ok-kinds.kinds))) by told in
    let rows : WentForRows c.args.fingers.now c.args.budget c.in-Ok.proof.trails c.in-Ok.proof.gaps = record {
      fewest = λ none. fewest_proved c.in_ok-kinds.kinds c.args.fingers.now c.in-Ok.proof c.requires c.in_ok-kinds.ensures.kinds c.in_ok-kinds.ensures.sound c.in-Ok.ensures.proof c.in-Ok.ensures.most none;
      searched = (
        c.in_ok-kinds.kinds,
        c.in_ok-kinds.ensures.kinds,
        c.in_ok-kinds.ensures.sound,
        went_less c.in_ok-kinds.kinds (c.in-Ok.proof.gaps + 1) c.prove.new.left (row_units c.args.fingers.now c.args.budget c.in-Ok.proof.trails) (columns_left c.in_ok-kinds.kinds (start_of c.in_ok-kinds.kinds)) (columns_of c.args.fingers.now) (omega (arith, c.in-Ok.ensures.units.many)) (sym (columns_same c.args.fingers.now c.in_ok-kinds.kinds c.in_ok-kinds.ensures.kinds)) (attempts_by (opened_gates c.args.fingers.now c.in-Ok.proof.trails.order)) went,
      );
    } in
    subst (Stops c.args.fingers.now c.args.budget) (sym c.unfinished-in-Err-Spent.ensures) (spent_is c.in_ok-kinds.kinds c.args.fingers.now c.args.budget c.in-Ok.proof c.in_ok-kinds.ensures.kinds c.in_ok-kinds.ensures.sound c.in-Ok.ensures.proof (omega (arith, c.in-Ok.ensures.units.few)) (inr rows))
