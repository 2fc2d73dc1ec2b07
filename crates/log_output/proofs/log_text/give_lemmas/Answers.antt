use Rattle.std.proofs.Common.{ℕ, List, ◌++◌, subst}
use Rattle.std.specs.List.{flat_map}
use Rattle.std.proofs.lemmas.Option.{get_or_from_slice_get, slice_get_within}
use Rattle.cell_io.specs.Desk.{View}
use Rattle.cell_io.specs.Output.{Place}
use Rattle.cell_io.proofs.Puts.{quiet_more}
use Rattle.bound_log.specs.Text.{lemma_line}
use Rattle.log_output.specs.Giving.{Gives, GivesSome}
use Rattle.log_output.specs.Targets.{place_of}
use Rattle.log_output.proofs.Giving.{can_still, lines_more, lines_stop, on_err, only_more}
use Rattle.log_output.proofs.log_text.give_lemmas.Goals as goal

pub returns-in_err-add-clause-some : goal.returns-in_err-add-clause-some
returns-in_err-add-clause-some g c =
    let place : Place = place_of c.args.target in
    let before : View = g.D.Desk.view c.args.desk.now in
    let mid : View = g.D.Desk.view c.lemmas.desk in
    let after : View = g.D.Desk.view c.add.new.desk in
    on_err c.from_residual.result (GivesSome place (c.args.block.now ++ flat_map lemma_line c.args.kept.now) before after)
    (lines_stop lemma_line place c.args.kept.now c.lemmas.at c.fetch.new.into c.args.block.now c.lemmas.block before mid after
    (slice_get_within c.args.kept.now c.lemmas.at c.fetch.new.into c.fetch.ensures.lemma)
    (get_or_from_slice_get c.args.kept.now c.lemmas.at c.fetch.new.into c.fetch.new.into c.fetch.ensures.lemma)
    c.lemmas.invariant.2
    (subst (λ (line : List ℕ). GivesSome place (c.lemmas.block ++ line) mid after) c.lemma.ensures c.in_err-add.ensures.some))

pub lemmas-preserved : goal.lemmas-preserved
lemmas-preserved g c =
    let place : Place = place_of c.args.target in
    let before : View = g.D.Desk.view c.args.desk.now in
    let mid : View = g.D.Desk.view c.lemmas.desk in
    let after : View = g.D.Desk.view c.add.new.desk in (
      c.fetch.ensures.room,
      can_still place (c.lemmas.block ++ c.lemma.result.now) c.add.new.self mid after c.in_ok-add.ensures.all c.lemmas.invariant.1,
      lines_more lemma_line place c.args.kept.now c.lemmas.at c.fetch.new.into c.args.block.now c.lemmas.block c.add.new.self before mid after
          (slice_get_within c.args.kept.now c.lemmas.at c.fetch.new.into c.fetch.ensures.lemma)
          (get_or_from_slice_get c.args.kept.now c.lemmas.at c.fetch.new.into c.fetch.new.into c.fetch.ensures.lemma)
          c.lemmas.invariant.2
          (subst (λ (line : List ℕ). Gives place (c.lemmas.block ++ line) c.add.new.self mid after) c.lemma.ensures c.in_ok-add.ensures.all),
      only_more place before mid after c.lemmas.invariant.3 c.in_ok-add.ensures.only,
      quiet_more before mid after c.lemmas.invariant.4 c.in_ok-add.ensures.counts,
    )
