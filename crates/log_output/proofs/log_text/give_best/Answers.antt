use Rattle.std.proofs.Common.{ℕ, ◌≡◌, List, ◌++◌, Option, None, OnErr, OnOk, rules, sym, subst}
use Rattle.std.specs.List.{flat_map}
use Rattle.cell_io.specs.Desk.{View}
use Rattle.cell_io.specs.Output.{Place}
use Rattle.bound_log.specs.declared.log.Best.{Best}
use Rattle.bound_log.specs.declared.log.LogStep.{LogStep}
use Rattle.bound_log.specs.Text.{best_text, column_line, gaps_line}
use Rattle.cell_io.proofs.Puts.{refused_so}
use Rattle.log_output.specs.Giving.{Gives, GivesSome}
use Rattle.log_output.specs.Targets.{place_of}
use Rattle.log_output.proofs.Giving.{can_still, ok_so, on_err, text_more, text_stop, text_wider}
use Rattle.log_output.proofs.log_text.give_best.Goals as goal

pub returns-in_err-add-clause-some : goal.returns-in_err-add-clause-some
returns-in_err-add-clause-some g c =
    let place : Place = place_of c.args.target in
    let before : View = g.D.Desk.view c.args.desk.now in
    let after : View = g.D.Desk.view c.add-2.new.desk in
    on_err c.from_residual.result (GivesSome place (c.args.block.now ++ best_text c.args.best.now) before after)
    (subst (λ (best : Option Best). GivesSome place (c.args.block.now ++ best_text best) before after) (sym c.in-Some.is)
    (text_wider place c.args.block.now (gaps_line c.in-Some.best.gaps) (flat_map column_line c.in-Some.best.steps) before after
    (subst (λ (line : List ℕ). GivesSome place (c.args.block.now ++ line) before after) c.best.ensures c.in_err-add.ensures.some)))

pub give_columns-requires-clause-place : goal.give_columns-requires-clause-place
give_columns-requires-clause-place g c =
    can_still (place_of c.args.target) (c.args.block.now ++ c.best.result.now) c.add-2.new.self (g.D.Desk.view c.args.desk.now) (g.D.Desk.view c.add-2.new.desk) c.in_ok-add.ensures.all c.requires.place

pub returns-clause-all : goal.returns-clause-all
returns-clause-all g c =
    let place : Place = place_of c.args.target in
    let before : View = g.D.Desk.view c.args.desk.now in
    let mid : View = g.D.Desk.view c.add-2.new.desk in
    let after : View = g.D.Desk.view c.give_columns.new.desk in
    let steps : List LogStep = c.in-Some.best.steps in
    let gaps : List ℕ = gaps_line c.in-Some.best.gaps in
    let first : Gives place (c.args.block.now ++ gaps) c.add-2.new.self before mid = subst (λ (line : List ℕ). Gives place (c.args.block.now ++ line) c.add-2.new.self before mid) c.best.ensures c.in_ok-add.ensures.all in
    let behind : OnOk c.give_columns.result (Gives place (c.add-2.new.self ++ flat_map column_line steps) c.give_columns.new.block mid after) =
    subst (λ (xs : List LogStep). OnOk c.give_columns.result (Gives place (c.add-2.new.self ++ flat_map column_line xs) c.give_columns.new.block mid after)) c.as_slice.ensures c.give_columns.ensures.all in
    subst (λ (best : Option Best). OnOk c.give_columns.result (Gives place (c.args.block.now ++ best_text best) c.give_columns.new.block before after)) (sym c.in-Some.is)
    (ok_so c.give_columns.result (Gives place (c.add-2.new.self ++ flat_map column_line steps) c.give_columns.new.block mid after) (Gives place (c.args.block.now ++ (gaps ++ flat_map column_line steps)) c.give_columns.new.block before after)
    (λ h. text_more place c.args.block.now gaps (flat_map column_line steps) c.add-2.new.self c.give_columns.new.block before mid after first h) behind)

pub returns-clause-some : goal.returns-clause-some
returns-clause-some g c =
    let place : Place = place_of c.args.target in
    let before : View = g.D.Desk.view c.args.desk.now in
    let mid : View = g.D.Desk.view c.add-2.new.desk in
    let after : View = g.D.Desk.view c.give_columns.new.desk in
    let steps : List LogStep = c.in-Some.best.steps in
    let gaps : List ℕ = gaps_line c.in-Some.best.gaps in
    let first : Gives place (c.args.block.now ++ gaps) c.add-2.new.self before mid = subst (λ (line : List ℕ). Gives place (c.args.block.now ++ line) c.add-2.new.self before mid) c.best.ensures c.in_ok-add.ensures.all in
    let behind : OnErr c.give_columns.result (GivesSome place (c.add-2.new.self ++ flat_map column_line steps) mid after) =
    subst (λ (xs : List LogStep). OnErr c.give_columns.result (GivesSome place (c.add-2.new.self ++ flat_map column_line xs) mid after)) c.as_slice.ensures c.give_columns.ensures.some in
    subst (λ (best : Option Best). OnErr c.give_columns.result (GivesSome place (c.args.block.now ++ best_text best) before after)) (sym c.in-Some.is)
    (refused_so c.give_columns.result (GivesSome place (c.add-2.new.self ++ flat_map column_line steps) mid after) (GivesSome place (c.args.block.now ++ (gaps ++ flat_map column_line steps)) before after)
    (λ h. text_stop place c.args.block.now gaps (flat_map column_line steps) c.add-2.new.self before mid after first h) behind)

pub returns-in_default-clause-some : goal.returns-in_default-clause-some
returns-in_default-clause-some g c =
    let place : Place = place_of c.args.target in
    let before : View = g.D.Desk.view c.args.desk.now in
    let after : View = g.D.Desk.view c.add.new.desk in
    let none : c.args.best.now ≡ None = search rules in
    subst (λ (best : Option Best). OnErr c.add.result (GivesSome place (c.args.block.now ++ best_text best) before after)) (sym none)
    (subst (λ (line : List ℕ). OnErr c.add.result (GivesSome place (c.args.block.now ++ line) before after)) c.unfinished.ensures c.add.ensures.some)
