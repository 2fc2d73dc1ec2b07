use Rattle.std.proofs.Common.{ℕ, ◌≡◌, List, [], ◌++◌, ap, subst}
use Rattle.cell_io.specs.Desk.{View}
use Rattle.cell_io.specs.Output.{Place}
use Rattle.bound_log.specs.declared.log.Log.{Log}
use Rattle.bound_log.specs.Text.{log_text}
use Rattle.log_output.specs.Giving.{Gives, GivesSome}
use Rattle.log_output.specs.Targets.{place_of}
use Rattle.log_output.proofs.Giving.{can_still, on_err, rest_all, rest_some}
use Rattle.log_output.proofs.log_text.give_whole.Goals as goal

-- an empty block is no part of the text
only_text : (block : List ℕ) (name : List ℕ) (log : Log) → block ≡ [] → block ++ log_text name log ≡ log_text name log
only_text block name log empty = ap (λ (front : List ℕ). front ++ log_text name log) empty

pub returns-in_err-give_lines-clause-some : goal.returns-in_err-give_lines-clause-some
returns-in_err-give_lines-clause-some g c =
    let place : Place = place_of c.args.target in
    let before : View = g.D.Desk.view c.args.desk.now in
    let after : View = g.D.Desk.view c.give_lines.new.desk in
    on_err c.from_residual.result (GivesSome place (log_text c.args.name.now c.args.log.now) before after)
    (subst (λ (text : List ℕ). GivesSome place text before after) (only_text c.args.block.now c.args.name.now c.args.log.now c.requires.ready.empty) c.in_err-give_lines.ensures.some)

pub flush-requires : goal.flush-requires
flush-requires g c =
    can_still (place_of c.args.target) (c.args.block.now ++ log_text c.args.name.now c.args.log.now) c.give_lines.new.block (g.D.Desk.view c.args.desk.now) (g.D.Desk.view c.give_lines.new.desk) c.in_ok-give_lines.ensures.all c.requires.place

pub returns-clause-all : goal.returns-clause-all
returns-clause-all g c =
    let place : Place = place_of c.args.target in
    let before : View = g.D.Desk.view c.args.desk.now in
    let mid : View = g.D.Desk.view c.give_lines.new.desk in
    let after : View = g.D.Desk.view c.flush.new.desk in
    rest_all c.flush.result place (log_text c.args.name.now c.args.log.now) c.give_lines.new.block c.flush.new.self before mid after
    (subst (λ (text : List ℕ). Gives place text c.give_lines.new.block before mid) (only_text c.args.block.now c.args.name.now c.args.log.now c.requires.ready.empty) c.in_ok-give_lines.ensures.all)
    c.flush.ensures.all c.flush.ensures.empty

pub returns-clause-some : goal.returns-clause-some
returns-clause-some g c =
    let place : Place = place_of c.args.target in
    let before : View = g.D.Desk.view c.args.desk.now in
    let mid : View = g.D.Desk.view c.give_lines.new.desk in
    let after : View = g.D.Desk.view c.flush.new.desk in
    rest_some c.flush.result place (log_text c.args.name.now c.args.log.now) c.give_lines.new.block before mid after
    (subst (λ (text : List ℕ). Gives place text c.give_lines.new.block before mid) (only_text c.args.block.now c.args.name.now c.args.log.now c.requires.ready.empty) c.in_ok-give_lines.ensures.all)
    c.flush.ensures.some
