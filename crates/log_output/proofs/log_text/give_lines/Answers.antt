use Rattle.std.proofs.Common.{ℕ, List, ◌++◌, OnErr, OnOk, subst}
use Rattle.std.specs.List.{flat_map}
use Rattle.cell_io.specs.Desk.{View}
use Rattle.cell_io.specs.Output.{Place}
use Rattle.cell_io.proofs.Puts.{refused_so}
use Rattle.bound_log.specs.declared.log.Log.{Log}
use Rattle.bound_log.specs.Text.{best_text, head_lines, last_line, lemma_line, log_text}
use Rattle.log_output.specs.Giving.{Gives, GivesSome}
use Rattle.log_output.specs.Targets.{place_of}
use Rattle.log_output.proofs.Giving.{can_still, ok_so, on_err, text_more, text_stop, text_wider}
use Rattle.log_output.proofs.log_text.give_lines.Goals as goal

pub returns-in_err-add-clause-some : goal.returns-in_err-add-clause-some
returns-in_err-add-clause-some g c =
    let place : Place = place_of c.args.target in
    let before : View = g.D.Desk.view c.args.desk.now in
    let after : View = g.D.Desk.view c.add.new.desk in
    let head : List ℕ = head_lines c.log.inside.version c.args.name.now in
    let lemmas : List ℕ = flat_map lemma_line c.log.inside.kept in
    let best : List ℕ = best_text c.log.inside.best in
    on_err c.from_residual.result (GivesSome place (c.args.block.now ++ log_text c.args.name.now c.args.log.now) before after)
    (subst (λ (log : Log). GivesSome place (c.args.block.now ++ log_text c.args.name.now log) before after) c.log.view_is
    (text_wider place c.args.block.now ((head ++ lemmas) ++ best) last_line before after
    (text_wider place c.args.block.now (head ++ lemmas) best before after
    (text_wider place c.args.block.now head lemmas before after
    (subst (λ (line : List ℕ). GivesSome place (c.args.block.now ++ line) before after) c.head.ensures c.in_err-add.ensures.some)))))

pub give_lemmas-requires-clause-place : goal.give_lemmas-requires-clause-place
give_lemmas-requires-clause-place g c =
    can_still (place_of c.args.target) (c.args.block.now ++ c.head.result.now) c.add.new.self (g.D.Desk.view c.args.desk.now) (g.D.Desk.view c.add.new.desk) c.in_ok-add.ensures.all c.requires.place

pub returns-in_err-give_lemmas-clause-some : goal.returns-in_err-give_lemmas-clause-some
returns-in_err-give_lemmas-clause-some g c =
    let place : Place = place_of c.args.target in
    let before : View = g.D.Desk.view c.args.desk.now in
    let mid : View = g.D.Desk.view c.add.new.desk in
    let after : View = g.D.Desk.view c.give_lemmas.new.desk in
    let head : List ℕ = head_lines c.log.inside.version c.args.name.now in
    let lemmas : List ℕ = flat_map lemma_line c.log.inside.kept in
    let best : List ℕ = best_text c.log.inside.best in
    let first : Gives place (c.args.block.now ++ head) c.add.new.self before mid = subst (λ (line : List ℕ). Gives place (c.args.block.now ++ line) c.add.new.self before mid) c.head.ensures c.in_ok-add.ensures.all in
    on_err c.from_residual-in_err-give_lemmas.result (GivesSome place (c.args.block.now ++ log_text c.args.name.now c.args.log.now) before after)
    (subst (λ (log : Log). GivesSome place (c.args.block.now ++ log_text c.args.name.now log) before after) c.log.view_is
    (text_wider place c.args.block.now ((head ++ lemmas) ++ best) last_line before after
    (text_wider place c.args.block.now (head ++ lemmas) best before after
    (text_stop place c.args.block.now head lemmas c.add.new.self before mid after first c.in_err-give_lemmas.ensures.some))))

pub give_best-requires-clause-place : goal.give_best-requires-clause-place
give_best-requires-clause-place g c =
    let place : Place = place_of c.args.target in
    let before : View = g.D.Desk.view c.args.desk.now in
    let mid : View = g.D.Desk.view c.add.new.desk in
    let after : View = g.D.Desk.view c.give_lemmas.new.desk in
    can_still place (c.add.new.self ++ flat_map lemma_line c.log.inside.kept) c.give_lemmas.new.block mid after c.in_ok-give_lemmas.ensures.all
    (can_still place (c.args.block.now ++ c.head.result.now) c.add.new.self before mid c.in_ok-add.ensures.all c.requires.place)

pub returns-in_err-give_best-clause-some : goal.returns-in_err-give_best-clause-some
returns-in_err-give_best-clause-some g c =
    let place : Place = place_of c.args.target in
    let before : View = g.D.Desk.view c.args.desk.now in
    let one : View = g.D.Desk.view c.add.new.desk in
    let two : View = g.D.Desk.view c.give_lemmas.new.desk in
    let after : View = g.D.Desk.view c.give_best.new.desk in
    let head : List ℕ = head_lines c.log.inside.version c.args.name.now in
    let lemmas : List ℕ = flat_map lemma_line c.log.inside.kept in
    let best : List ℕ = best_text c.log.inside.best in
    let first : Gives place (c.args.block.now ++ head) c.add.new.self before one = subst (λ (line : List ℕ). Gives place (c.args.block.now ++ line) c.add.new.self before one) c.head.ensures c.in_ok-add.ensures.all in
    let second : Gives place (c.args.block.now ++ (head ++ lemmas)) c.give_lemmas.new.block before two = text_more place c.args.block.now head lemmas c.add.new.self c.give_lemmas.new.block before one two first c.in_ok-give_lemmas.ensures.all in
    on_err c.from_residual-in_err-give_best.result (GivesSome place (c.args.block.now ++ log_text c.args.name.now c.args.log.now) before after)
    (subst (λ (log : Log). GivesSome place (c.args.block.now ++ log_text c.args.name.now log) before after) c.log.view_is
    (text_wider place c.args.block.now ((head ++ lemmas) ++ best) last_line before after
    (text_stop place c.args.block.now (head ++ lemmas) best c.give_lemmas.new.block before two after second c.in_err-give_best.ensures.some)))

pub add-requires-2 : goal.add-requires-2
add-requires-2 g c =
    let place : Place = place_of c.args.target in
    let before : View = g.D.Desk.view c.args.desk.now in
    let one : View = g.D.Desk.view c.add.new.desk in
    let two : View = g.D.Desk.view c.give_lemmas.new.desk in
    let three : View = g.D.Desk.view c.give_best.new.desk in
    can_still place (c.give_lemmas.new.block ++ best_text c.log.inside.best) c.give_best.new.block two three c.in_ok-give_best.ensures.all
    (can_still place (c.add.new.self ++ flat_map lemma_line c.log.inside.kept) c.give_lemmas.new.block one two c.in_ok-give_lemmas.ensures.all
    (can_still place (c.args.block.now ++ c.head.result.now) c.add.new.self before one c.in_ok-add.ensures.all c.requires.place))

pub returns-clause-all : goal.returns-clause-all
returns-clause-all g c =
    let place : Place = place_of c.args.target in
    let before : View = g.D.Desk.view c.args.desk.now in
    let one : View = g.D.Desk.view c.add.new.desk in
    let two : View = g.D.Desk.view c.give_lemmas.new.desk in
    let three : View = g.D.Desk.view c.give_best.new.desk in
    let after : View = g.D.Desk.view c.add-2.new.desk in
    let head : List ℕ = head_lines c.log.inside.version c.args.name.now in
    let lemmas : List ℕ = flat_map lemma_line c.log.inside.kept in
    let best : List ℕ = best_text c.log.inside.best in
    let first : Gives place (c.args.block.now ++ head) c.add.new.self before one = subst (λ (line : List ℕ). Gives place (c.args.block.now ++ line) c.add.new.self before one) c.head.ensures c.in_ok-add.ensures.all in
    let second : Gives place (c.args.block.now ++ (head ++ lemmas)) c.give_lemmas.new.block before two = text_more place c.args.block.now head lemmas c.add.new.self c.give_lemmas.new.block before one two first c.in_ok-give_lemmas.ensures.all in
    let third : Gives place (c.args.block.now ++ ((head ++ lemmas) ++ best)) c.give_best.new.block before three = text_more place c.args.block.now (head ++ lemmas) best c.give_lemmas.new.block c.give_best.new.block before two three second c.in_ok-give_best.ensures.all in
    subst (λ (log : Log). OnOk c.add-2.result (Gives place (c.args.block.now ++ log_text c.args.name.now log) c.add-2.new.self before after)) c.log.view_is
    (ok_so c.add-2.result (Gives place (c.give_best.new.block ++ c.last.result.now) c.add-2.new.self three after) (Gives place (c.args.block.now ++ (((head ++ lemmas) ++ best) ++ last_line)) c.add-2.new.self before after)
    (λ h. text_more place c.args.block.now ((head ++ lemmas) ++ best) last_line c.give_best.new.block c.add-2.new.self before three after third
    (subst (λ (line : List ℕ). Gives place (c.give_best.new.block ++ line) c.add-2.new.self three after) c.last.ensures h)) c.add-2.ensures.all)

pub returns-clause-some : goal.returns-clause-some
returns-clause-some g c =
    let place : Place = place_of c.args.target in
    let before : View = g.D.Desk.view c.args.desk.now in
    let one : View = g.D.Desk.view c.add.new.desk in
    let two : View = g.D.Desk.view c.give_lemmas.new.desk in
    let three : View = g.D.Desk.view c.give_best.new.desk in
    let after : View = g.D.Desk.view c.add-2.new.desk in
    let head : List ℕ = head_lines c.log.inside.version c.args.name.now in
    let lemmas : List ℕ = flat_map lemma_line c.log.inside.kept in
    let best : List ℕ = best_text c.log.inside.best in
    let first : Gives place (c.args.block.now ++ head) c.add.new.self before one = subst (λ (line : List ℕ). Gives place (c.args.block.now ++ line) c.add.new.self before one) c.head.ensures c.in_ok-add.ensures.all in
    let second : Gives place (c.args.block.now ++ (head ++ lemmas)) c.give_lemmas.new.block before two = text_more place c.args.block.now head lemmas c.add.new.self c.give_lemmas.new.block before one two first c.in_ok-give_lemmas.ensures.all in
    let third : Gives place (c.args.block.now ++ ((head ++ lemmas) ++ best)) c.give_best.new.block before three = text_more place c.args.block.now (head ++ lemmas) best c.give_lemmas.new.block c.give_best.new.block before two three second c.in_ok-give_best.ensures.all in
    subst (λ (log : Log). OnErr c.add-2.result (GivesSome place (c.args.block.now ++ log_text c.args.name.now log) before after)) c.log.view_is
    (refused_so c.add-2.result (GivesSome place (c.give_best.new.block ++ c.last.result.now) three after) (GivesSome place (c.args.block.now ++ (((head ++ lemmas) ++ best) ++ last_line)) before after)
    (λ h. text_stop place c.args.block.now ((head ++ lemmas) ++ best) last_line c.give_best.new.block before three after third
    (subst (λ (line : List ℕ). GivesSome place (c.give_best.new.block ++ line) three after) c.last.ensures h)) c.add-2.ensures.some)
