use Rattle.std.proofs.Common.{ℕ, List, [], OnErr, OnOk, subst}
use Rattle.cell_io.specs.Desk.{View}
use Rattle.log_output.specs.Giving.{Gives, GivesSome}
use Rattle.log_output.specs.Targets.{place_of}
use Rattle.log_output.proofs.log_text.LogText.give.Goals as goal

pub returns-clause-all : goal.returns-clause-all
returns-clause-all g c =
    let before : View = g.D.Desk.view c.args.desk.now in
    let after : View = g.D.Desk.view c.give_whole-given.new.desk in
    subst (λ (text : List ℕ). OnOk c.give_whole-given.result (Gives (place_of c.args.target) text [] before after)) c.self.view_is c.give_whole-given.ensures.all

pub returns-clause-some : goal.returns-clause-some
returns-clause-some g c =
    let before : View = g.D.Desk.view c.args.desk.now in
    let after : View = g.D.Desk.view c.give_whole-given.new.desk in
    subst (λ (text : List ℕ). OnErr c.give_whole-given.result (GivesSome (place_of c.args.target) text before after)) c.self.view_is c.give_whole-given.ensures.some
