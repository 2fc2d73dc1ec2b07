use Rattle.std.proofs.Common.{ℕ, ◌≡◌, ◌<◌, List, ◌++◌, None, get_or, length, subst}
use Rattle.std.specs.List.{flat_map}
use Rattle.std.proofs.lemmas.Option.{get_or_from_slice_get, slice_get-get_or}
use Rattle.cell_io.specs.Desk.{View}
use Rattle.cell_io.specs.Output.{Place}
use Rattle.cell_io.proofs.Puts.{quiet_more}
use Rattle.bound_log.specs.declared.log.LogStep.{LogStep}
use Rattle.bound_log.specs.Text.{column_line}
use Rattle.log_output.specs.Giving.{Gives, GivesSome}
use Rattle.log_output.specs.Targets.{place_of}
use Rattle.log_output.proofs.Giving.{can_still, lines_more, lines_stop, on_err, only_more}
use Rattle.log_output.proofs.log_text.give_columns.Goals as goal

abbrev blank : LogStep
blank = record { gate = record { 0 = 0 }; step = record { p = None; n = None } }

there : (steps : List LogStep) (at : ℕ) → at < length steps → get_or steps at (get_or steps at blank) ≡ get_or steps at blank
there steps at within = get_or_from_slice_get steps at (get_or steps at blank) (get_or steps at blank) (slice_get-get_or steps at blank within)

pub returns-in_err-add-clause-some : goal.returns-in_err-add-clause-some
returns-in_err-add-clause-some g c =
    let place : Place = place_of c.args.target in
    let before : View = g.D.Desk.view c.args.desk.now in
    let mid : View = g.D.Desk.view c.steps.desk in
    let after : View = g.D.Desk.view c.add.new.desk in
    on_err c.from_residual.result (GivesSome place (c.args.block.now ++ flat_map column_line c.args.steps.now) before after)
    (lines_stop column_line place c.args.steps.now c.steps.step-index (get_or c.args.steps.now c.steps.step-index blank) c.args.block.now c.steps.block before mid after
    c.steps-test.true (there c.args.steps.now c.steps.step-index c.steps-test.true) c.steps.invariant.1
    (subst (λ (line : List ℕ). GivesSome place (c.steps.block ++ line) mid after) c.column.ensures c.in_err-add.ensures.some))

pub steps-preserved : goal.steps-preserved
steps-preserved g c =
    let place : Place = place_of c.args.target in
    let before : View = g.D.Desk.view c.args.desk.now in
    let mid : View = g.D.Desk.view c.steps.desk in
    let after : View = g.D.Desk.view c.add.new.desk in (
      can_still place (c.steps.block ++ c.column.result.now) c.add.new.self mid after c.in_ok-add.ensures.all c.steps.invariant.0,
      lines_more column_line place c.args.steps.now c.steps.step-index (get_or c.args.steps.now c.steps.step-index blank) c.args.block.now c.steps.block c.add.new.self before mid after
          c.steps-test.true (there c.args.steps.now c.steps.step-index c.steps-test.true) c.steps.invariant.1
          (subst (λ (line : List ℕ). Gives place (c.steps.block ++ line) c.add.new.self mid after) c.column.ensures c.in_ok-add.ensures.all),
      only_more place before mid after c.steps.invariant.2 c.in_ok-add.ensures.only,
      quiet_more before mid after c.steps.invariant.3 c.in_ok-add.ensures.counts,
    )
