use Rattle.std.proofs.Common.{arith, refl, ◌∙◌}
use Rattle.call_end.specs.declared.status.Status.TheVariants as status
use Rattle.call_words.specs.Words.{asked}
use Rattle.cell_run.proofs.AgreeTold.{agreed_told, agrees_told, disagreed_told, disagrees_told, unextracted_told, unextracts_told}
use Rattle.cell_run.proofs.BenchTold.{benched_told, benches_told}
use Rattle.cell_run.proofs.Created.{once_told}
use Rattle.cell_run.proofs.ExtractTold.{breaks_told, broken_told, extracted_told, extracts_told, layout_faults_told, layout_told}
use Rattle.cell_run.proofs.FromTold.{from_draws_told, from_leaves, from_meets_told, from_needs_told, from_refuses_told}
use Rattle.cell_run.proofs.LowChecked.{low_accepts_told, low_checked_told, low_proved_told}
use Rattle.cell_run.proofs.LowDraws.{low_draws_told, low_keeps_told}
use Rattle.cell_run.proofs.LowTold.{low_leaves}
use Rattle.cell_run.proofs.MadeCompared.{agrees_made_told}
use Rattle.cell_run.proofs.MakeTold.{draws_told, make_leaves, meets_told, needs_told}
use Rattle.cell_run.proofs.PlanTold.{accepts_told, checked_told, planned_told, plans_told, unplanned_told}
use Rattle.cell_run.proofs.RowSettled.{rows_told, unabuts_told}
use Rattle.cell_run.proofs.RowTold.{misread_told, rowed_told, stopped_told, unabutted_told}
use Rattle.cell_run.proofs.Unmade.{none_told, unmade_told}
use Rattle.cell_run.proofs.Telling.{alone_told, answers, called_for_told, completes_told, made_told, memory_told, read_told, same_reads_told, status_told, usage_told, write_told}
use Rattle.cell_run.proofs.call.run.Goals as goal

pub returns-clause-ends : goal.returns-clause-ends
returns-clause-ends g c =
    answers (g.D.Desk.view c.args.desk.now) (g.D.Desk.view c.prepare-end.new.desk) (g.D.Desk.view c.deliver.new.desk) (asked c.args.words.now) c.prepare-end.result c.deliver.result
    c.prepare-end.ensures.only c.deliver.ensures.only c.prepare-end.ensures.ends c.deliver.ensures.tells

pub returns-clause-called_for : goal.returns-clause-called_for
returns-clause-called_for g c = called_for_told (g.D.Desk.view c.args.desk.now) (g.D.Desk.view c.deliver.new.desk) (asked c.args.words.now) c.deliver.result (g.D.Desk.view c.args.desk.now).given refl (returns-clause-ends g c)

pub returns-clause-completes : goal.returns-clause-completes
returns-clause-completes g c = completes_told (g.D.Desk.view c.args.desk.now) (g.D.Desk.view c.deliver.new.desk) (asked c.args.words.now) c.deliver.result (g.D.Desk.view c.args.desk.now).given refl (returns-clause-ends g c)

pub returns-clause-usage : goal.returns-clause-usage
returns-clause-usage g c = usage_told (g.D.Desk.view c.args.desk.now) (g.D.Desk.view c.deliver.new.desk) (asked c.args.words.now) c.deliver.result (returns-clause-ends g c)

pub returns-clause-read : goal.returns-clause-read
returns-clause-read g c = read_told (g.D.Desk.view c.args.desk.now) (g.D.Desk.view c.deliver.new.desk) (asked c.args.words.now) c.deliver.result (returns-clause-ends g c)

pub returns-clause-write : goal.returns-clause-write
returns-clause-write g c = write_told (g.D.Desk.view c.args.desk.now) (g.D.Desk.view c.deliver.new.desk) (asked c.args.words.now) c.deliver.result (returns-clause-ends g c)

pub returns-clause-memory : goal.returns-clause-memory
returns-clause-memory g c = memory_told (g.D.Desk.view c.args.desk.now) (g.D.Desk.view c.deliver.new.desk) (asked c.args.words.now) c.deliver.result (returns-clause-ends g c)

pub returns-clause-other : goal.returns-clause-other
returns-clause-other g c = status_told (g.D.Desk.view c.args.desk.now) (g.D.Desk.view c.deliver.new.desk) (asked c.args.words.now) c.deliver.result (returns-clause-ends g c)

pub returns-clause-same_reads : goal.returns-clause-same_reads
returns-clause-same_reads g c =
    same_reads_told (g.D.Desk.view c.args.desk.now) (g.D.Desk.view c.prepare-end.new.desk) (g.D.Desk.view c.deliver.new.desk) c.prepare-end.result c.deliver.result
    c.prepare-end.ensures.quiet c.deliver.ensures.only c.deliver.ensures.tells

pub returns-clause-same_writes : goal.returns-clause-same_writes
returns-clause-same_writes g c = λ other. c.deliver.ensures.same_writes other ∙ c.prepare-end.ensures.only.writes

pub returns-clause-same_shorts : goal.returns-clause-same_shorts
returns-clause-same_shorts g c = λ other. c.deliver.ensures.same_shorts other ∙ c.prepare-end.ensures.only.shorts

pub returns-clause-given : goal.returns-clause-given
returns-clause-given g c = c.deliver.ensures.only.given ∙ c.prepare-end.ensures.only.given

pub returns-clause-read_count : goal.returns-clause-read_count
returns-clause-read_count g c = omega (arith, c.deliver.ensures.only.reads, c.prepare-end.ensures.only.reads)

pub returns-clause-write_count : goal.returns-clause-write_count
returns-clause-write_count g c = omega (arith, c.deliver.ensures.only.writes, c.prepare-end.ensures.only.writes)

pub returns-clause-short_count : goal.returns-clause-short_count
returns-clause-short_count g c = omega (arith, c.deliver.ensures.only.shorts, c.prepare-end.ensures.only.shorts)

pub returns-clause-made : goal.returns-clause-made
returns-clause-made g c = made_told (g.D.Desk.view c.args.desk.now) (g.D.Desk.view c.deliver.new.desk) (asked c.args.words.now) c.deliver.result (returns-clause-ends g c)

pub returns-clause-planned : goal.returns-clause-planned
returns-clause-planned g c = planned_told (g.D.Desk.view c.args.desk.now) (g.D.Desk.view c.deliver.new.desk) (asked c.args.words.now) c.deliver.result (g.D.Desk.view c.args.desk.now).given (returns-clause-called_for g c)

pub returns-clause-unplanned : goal.returns-clause-unplanned
returns-clause-unplanned g c = unplanned_told (g.D.Desk.view c.args.desk.now) (g.D.Desk.view c.deliver.new.desk) (asked c.args.words.now) c.deliver.result (g.D.Desk.view c.args.desk.now).given (returns-clause-called_for g c)

pub returns-clause-plans : goal.returns-clause-plans
returns-clause-plans g c = plans_told (g.D.Desk.view c.args.desk.now) (g.D.Desk.view c.deliver.new.desk) (asked c.args.words.now) c.deliver.result (g.D.Desk.view c.args.desk.now).given (returns-clause-completes g c)

pub returns-clause-checked : goal.returns-clause-checked
returns-clause-checked g c = checked_told (g.D.Desk.view c.args.desk.now) (g.D.Desk.view c.deliver.new.desk) (asked c.args.words.now) c.deliver.result (g.D.Desk.view c.args.desk.now).given (returns-clause-called_for g c)

pub returns-clause-accepts : goal.returns-clause-accepts
returns-clause-accepts g c = accepts_told (g.D.Desk.view c.args.desk.now) (g.D.Desk.view c.deliver.new.desk) (asked c.args.words.now) c.deliver.result (g.D.Desk.view c.args.desk.now).given (returns-clause-completes g c)

pub returns-clause-none : goal.returns-clause-none
returns-clause-none g c = none_told (g.D.Desk.view c.args.desk.now) (g.D.Desk.view c.deliver.new.desk) (asked c.args.words.now) c.deliver.result (returns-clause-ends g c)

pub returns-clause-unmade : goal.returns-clause-unmade
returns-clause-unmade g c = unmade_told (g.D.Desk.view c.args.desk.now) (g.D.Desk.view c.deliver.new.desk) (asked c.args.words.now) c.deliver.result (returns-clause-ends g c)

pub returns-clause-drawn : goal.returns-clause-drawn
returns-clause-drawn g c = make_leaves status.Done (g.D.Desk.view c.args.desk.now) (g.D.Desk.view c.deliver.new.desk) (asked c.args.words.now) c.deliver.result (g.D.Desk.view c.args.desk.now).given refl (returns-clause-called_for g c)

pub returns-clause-cyclic : goal.returns-clause-cyclic
returns-clause-cyclic g c = make_leaves status.Cycle (g.D.Desk.view c.args.desk.now) (g.D.Desk.view c.deliver.new.desk) (asked c.args.words.now) c.deliver.result (g.D.Desk.view c.args.desk.now).given refl (returns-clause-called_for g c)

pub returns-clause-tall : goal.returns-clause-tall
returns-clause-tall g c = make_leaves status.TooTall (g.D.Desk.view c.args.desk.now) (g.D.Desk.view c.deliver.new.desk) (asked c.args.words.now) c.deliver.result (g.D.Desk.view c.args.desk.now).given refl (returns-clause-called_for g c)

pub returns-clause-spent : goal.returns-clause-spent
returns-clause-spent g c = make_leaves status.Unfinished (g.D.Desk.view c.args.desk.now) (g.D.Desk.view c.deliver.new.desk) (asked c.args.words.now) c.deliver.result (g.D.Desk.view c.args.desk.now).given refl (returns-clause-called_for g c)

pub returns-clause-draws : goal.returns-clause-draws
returns-clause-draws g c = draws_told (g.D.Desk.view c.args.desk.now) (g.D.Desk.view c.deliver.new.desk) (asked c.args.words.now) c.deliver.result (g.D.Desk.view c.args.desk.now).given (returns-clause-completes g c)

pub returns-clause-meets : goal.returns-clause-meets
returns-clause-meets g c = meets_told (g.D.Desk.view c.args.desk.now) (g.D.Desk.view c.deliver.new.desk) (asked c.args.words.now) c.deliver.result (g.D.Desk.view c.args.desk.now).given (returns-clause-completes g c)

pub returns-clause-needs : goal.returns-clause-needs
returns-clause-needs g c = needs_told (g.D.Desk.view c.args.desk.now) (g.D.Desk.view c.deliver.new.desk) (asked c.args.words.now) c.deliver.result (g.D.Desk.view c.args.desk.now).given (returns-clause-completes g c)

pub returns-clause-extracted : goal.returns-clause-extracted
returns-clause-extracted g c = extracted_told (g.D.Desk.view c.args.desk.now) (g.D.Desk.view c.deliver.new.desk) (asked c.args.words.now) c.deliver.result (g.D.Desk.view c.args.desk.now).given (returns-clause-called_for g c)

pub returns-clause-broken : goal.returns-clause-broken
returns-clause-broken g c = broken_told (g.D.Desk.view c.args.desk.now) (g.D.Desk.view c.deliver.new.desk) (asked c.args.words.now) c.deliver.result (g.D.Desk.view c.args.desk.now).given (returns-clause-called_for g c)

pub returns-clause-refused : goal.returns-clause-refused
returns-clause-refused g c = layout_told (g.D.Desk.view c.args.desk.now) (g.D.Desk.view c.deliver.new.desk) (asked c.args.words.now) c.deliver.result (g.D.Desk.view c.args.desk.now).given (returns-clause-called_for g c)

pub returns-clause-extracts : goal.returns-clause-extracts
returns-clause-extracts g c = extracts_told (g.D.Desk.view c.args.desk.now) (g.D.Desk.view c.deliver.new.desk) (asked c.args.words.now) c.deliver.result (g.D.Desk.view c.args.desk.now).given (returns-clause-completes g c)

pub returns-clause-breaks : goal.returns-clause-breaks
returns-clause-breaks g c = breaks_told (g.D.Desk.view c.args.desk.now) (g.D.Desk.view c.deliver.new.desk) (asked c.args.words.now) c.deliver.result (g.D.Desk.view c.args.desk.now).given (returns-clause-completes g c)

pub returns-clause-refuses : goal.returns-clause-refuses
returns-clause-refuses g c = layout_faults_told (g.D.Desk.view c.args.desk.now) (g.D.Desk.view c.deliver.new.desk) (asked c.args.words.now) c.deliver.result (g.D.Desk.view c.args.desk.now).given (returns-clause-completes g c)

pub returns-clause-benched : goal.returns-clause-benched
returns-clause-benched g c = benched_told (g.D.Desk.view c.args.desk.now) (g.D.Desk.view c.deliver.new.desk) (asked c.args.words.now) c.deliver.result (returns-clause-ends g c)

pub returns-clause-benches : goal.returns-clause-benches
returns-clause-benches g c = benches_told (g.D.Desk.view c.args.desk.now) (g.D.Desk.view c.deliver.new.desk) (asked c.args.words.now) c.deliver.result (returns-clause-ends g c)

pub returns-clause-agreed : goal.returns-clause-agreed
returns-clause-agreed g c = agreed_told (g.D.Desk.view c.args.desk.now) (g.D.Desk.view c.deliver.new.desk) (asked c.args.words.now) c.deliver.result (g.D.Desk.view c.args.desk.now).given (returns-clause-called_for g c)

pub returns-clause-disagreed : goal.returns-clause-disagreed
returns-clause-disagreed g c = disagreed_told (g.D.Desk.view c.args.desk.now) (g.D.Desk.view c.deliver.new.desk) (asked c.args.words.now) c.deliver.result (g.D.Desk.view c.args.desk.now).given (returns-clause-called_for g c)

pub returns-clause-unextracted : goal.returns-clause-unextracted
returns-clause-unextracted g c = unextracted_told (g.D.Desk.view c.args.desk.now) (g.D.Desk.view c.deliver.new.desk) (asked c.args.words.now) c.deliver.result (g.D.Desk.view c.args.desk.now).given (returns-clause-called_for g c)

pub returns-clause-agrees : goal.returns-clause-agrees
returns-clause-agrees g c = agrees_told (g.D.Desk.view c.args.desk.now) (g.D.Desk.view c.deliver.new.desk) (asked c.args.words.now) c.deliver.result (g.D.Desk.view c.args.desk.now).given (returns-clause-completes g c)

pub returns-clause-disagrees : goal.returns-clause-disagrees
returns-clause-disagrees g c = disagrees_told (g.D.Desk.view c.args.desk.now) (g.D.Desk.view c.deliver.new.desk) (asked c.args.words.now) c.deliver.result (g.D.Desk.view c.args.desk.now).given (returns-clause-completes g c)

pub returns-clause-unextracts : goal.returns-clause-unextracts
returns-clause-unextracts g c = unextracts_told (g.D.Desk.view c.args.desk.now) (g.D.Desk.view c.deliver.new.desk) (asked c.args.words.now) c.deliver.result (g.D.Desk.view c.args.desk.now).given (returns-clause-completes g c)

pub returns-clause-once : goal.returns-clause-once
returns-clause-once g c = once_told (g.D.Desk.view c.args.desk.now) (g.D.Desk.view c.deliver.new.desk) (asked c.args.words.now) c.deliver.result (returns-clause-ends g c)

pub returns-clause-alone : goal.returns-clause-alone
returns-clause-alone g c = alone_told (g.D.Desk.view c.args.desk.now) (g.D.Desk.view c.deliver.new.desk) (asked c.args.words.now) c.deliver.result (returns-clause-ends g c)

pub returns-clause-rowed : goal.returns-clause-rowed
returns-clause-rowed g c = rowed_told (g.D.Desk.view c.args.desk.now) (g.D.Desk.view c.deliver.new.desk) (asked c.args.words.now) c.deliver.result (g.D.Desk.view c.args.desk.now).given (returns-clause-called_for g c)

pub returns-clause-stopped : goal.returns-clause-stopped
returns-clause-stopped g c = stopped_told (g.D.Desk.view c.args.desk.now) (g.D.Desk.view c.deliver.new.desk) (asked c.args.words.now) c.deliver.result (g.D.Desk.view c.args.desk.now).given (returns-clause-called_for g c)

pub returns-clause-misread : goal.returns-clause-misread
returns-clause-misread g c = misread_told (g.D.Desk.view c.args.desk.now) (g.D.Desk.view c.deliver.new.desk) (asked c.args.words.now) c.deliver.result (g.D.Desk.view c.args.desk.now).given (returns-clause-called_for g c)

pub returns-clause-unabutted : goal.returns-clause-unabutted
returns-clause-unabutted g c = unabutted_told (g.D.Desk.view c.args.desk.now) (g.D.Desk.view c.deliver.new.desk) (asked c.args.words.now) c.deliver.result (g.D.Desk.view c.args.desk.now).given (returns-clause-called_for g c)

pub returns-clause-rows : goal.returns-clause-rows
returns-clause-rows g c = rows_told (g.D.Desk.view c.args.desk.now) (g.D.Desk.view c.deliver.new.desk) (asked c.args.words.now) c.deliver.result (g.D.Desk.view c.args.desk.now).given (returns-clause-completes g c)

pub returns-clause-unabuts : goal.returns-clause-unabuts
returns-clause-unabuts g c = unabuts_told (g.D.Desk.view c.args.desk.now) (g.D.Desk.view c.deliver.new.desk) (asked c.args.words.now) c.deliver.result (g.D.Desk.view c.args.desk.now).given (returns-clause-called_for g c) (returns-clause-completes g c)

pub returns-clause-agrees_made : goal.returns-clause-agrees_made
returns-clause-agrees_made g c = agrees_made_told (g.D.Desk.view c.args.desk.now) (g.D.Desk.view c.deliver.new.desk) (asked c.args.words.now) c.deliver.result (g.D.Desk.view c.args.desk.now).given (returns-clause-completes g c)

pub returns-clause-drawn_from : goal.returns-clause-drawn_from
returns-clause-drawn_from g c = from_leaves status.Done (g.D.Desk.view c.args.desk.now) (g.D.Desk.view c.deliver.new.desk) (asked c.args.words.now) c.deliver.result (g.D.Desk.view c.args.desk.now).given refl (returns-clause-called_for g c)

pub returns-clause-cyclic_from : goal.returns-clause-cyclic_from
returns-clause-cyclic_from g c = from_leaves status.Cycle (g.D.Desk.view c.args.desk.now) (g.D.Desk.view c.deliver.new.desk) (asked c.args.words.now) c.deliver.result (g.D.Desk.view c.args.desk.now).given refl (returns-clause-called_for g c)

pub returns-clause-tall_from : goal.returns-clause-tall_from
returns-clause-tall_from g c = from_leaves status.TooTall (g.D.Desk.view c.args.desk.now) (g.D.Desk.view c.deliver.new.desk) (asked c.args.words.now) c.deliver.result (g.D.Desk.view c.args.desk.now).given refl (returns-clause-called_for g c)

pub returns-clause-rejected_from : goal.returns-clause-rejected_from
returns-clause-rejected_from g c = from_leaves status.Rejected (g.D.Desk.view c.args.desk.now) (g.D.Desk.view c.deliver.new.desk) (asked c.args.words.now) c.deliver.result (g.D.Desk.view c.args.desk.now).given refl (returns-clause-called_for g c)

pub returns-clause-draws_from : goal.returns-clause-draws_from
returns-clause-draws_from g c = from_draws_told (g.D.Desk.view c.args.desk.now) (g.D.Desk.view c.deliver.new.desk) (asked c.args.words.now) c.deliver.result (g.D.Desk.view c.args.desk.now).given (returns-clause-completes g c)

pub returns-clause-meets_from : goal.returns-clause-meets_from
returns-clause-meets_from g c = from_meets_told (g.D.Desk.view c.args.desk.now) (g.D.Desk.view c.deliver.new.desk) (asked c.args.words.now) c.deliver.result (g.D.Desk.view c.args.desk.now).given (returns-clause-completes g c)

pub returns-clause-needs_from : goal.returns-clause-needs_from
returns-clause-needs_from g c = from_needs_told (g.D.Desk.view c.args.desk.now) (g.D.Desk.view c.deliver.new.desk) (asked c.args.words.now) c.deliver.result (g.D.Desk.view c.args.desk.now).given (returns-clause-completes g c)

pub returns-clause-rejects_from : goal.returns-clause-rejects_from
returns-clause-rejects_from g c = from_refuses_told (g.D.Desk.view c.args.desk.now) (g.D.Desk.view c.deliver.new.desk) (asked c.args.words.now) c.deliver.result (g.D.Desk.view c.args.desk.now).given (returns-clause-completes g c)

pub returns-clause-drawn_low : goal.returns-clause-drawn_low
returns-clause-drawn_low g c = low_leaves status.Done (g.D.Desk.view c.args.desk.now) (g.D.Desk.view c.deliver.new.desk) (asked c.args.words.now) c.deliver.result (g.D.Desk.view c.args.desk.now).given refl (returns-clause-called_for g c)

pub returns-clause-cyclic_low : goal.returns-clause-cyclic_low
returns-clause-cyclic_low g c = low_leaves status.Cycle (g.D.Desk.view c.args.desk.now) (g.D.Desk.view c.deliver.new.desk) (asked c.args.words.now) c.deliver.result (g.D.Desk.view c.args.desk.now).given refl (returns-clause-called_for g c)

pub returns-clause-tall_low : goal.returns-clause-tall_low
returns-clause-tall_low g c = low_leaves status.TooTall (g.D.Desk.view c.args.desk.now) (g.D.Desk.view c.deliver.new.desk) (asked c.args.words.now) c.deliver.result (g.D.Desk.view c.args.desk.now).given refl (returns-clause-called_for g c)

pub returns-clause-spent_low : goal.returns-clause-spent_low
returns-clause-spent_low g c = low_leaves status.Unfinished (g.D.Desk.view c.args.desk.now) (g.D.Desk.view c.deliver.new.desk) (asked c.args.words.now) c.deliver.result (g.D.Desk.view c.args.desk.now).given refl (returns-clause-called_for g c)

pub returns-clause-draws_low : goal.returns-clause-draws_low
returns-clause-draws_low g c = low_draws_told (g.D.Desk.view c.args.desk.now) (g.D.Desk.view c.deliver.new.desk) (asked c.args.words.now) c.deliver.result (g.D.Desk.view c.args.desk.now).given (returns-clause-completes g c)

pub returns-clause-keeps_low : goal.returns-clause-keeps_low
returns-clause-keeps_low g c = low_keeps_told (g.D.Desk.view c.args.desk.now) (g.D.Desk.view c.deliver.new.desk) (asked c.args.words.now) c.deliver.result (g.D.Desk.view c.args.desk.now).given (returns-clause-completes g c) (returns-clause-called_for g c)

pub returns-clause-checked_low : goal.returns-clause-checked_low
returns-clause-checked_low g c = low_checked_told (g.D.Desk.view c.args.desk.now) (g.D.Desk.view c.deliver.new.desk) (asked c.args.words.now) c.deliver.result (g.D.Desk.view c.args.desk.now).given (returns-clause-called_for g c)

pub returns-clause-proved_low : goal.returns-clause-proved_low
returns-clause-proved_low g c = low_proved_told (g.D.Desk.view c.args.desk.now) (g.D.Desk.view c.deliver.new.desk) (asked c.args.words.now) c.deliver.result (g.D.Desk.view c.args.desk.now).given (returns-clause-called_for g c)

pub returns-clause-accepts_low : goal.returns-clause-accepts_low
returns-clause-accepts_low g c = low_accepts_told (g.D.Desk.view c.args.desk.now) (g.D.Desk.view c.deliver.new.desk) (asked c.args.words.now) c.deliver.result (g.D.Desk.view c.args.desk.now).given (returns-clause-completes g c)
