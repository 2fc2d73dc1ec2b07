use Rattle.std.proofs.Common.{ℕ, ◌≡◌, List, [], ◌++◌, Option, OnOk, OnErr, unwrap_or, refl, sym, ap, subst, ◌∙◌}
use Rattle.log_output.specs.Giving.{Gives, GivesSome}
use Rattle.log_output.specs.Targets.{place_of}
use Rattle.log_output.proofs.Giving.{can_still, then_put, then_stop}
use Rattle.log_output.proofs.content.Content.give.Goals as goal

pub give-requires : goal.give-requires
give-requires g c = can_still (place_of c.args.target) c.as_slice.result.now [] (g.D.Desk.view c.args.desk.now) (g.D.Desk.view c.put.new.desk) c.in_ok-put.ensures.all c.requires

pub returns-in-Some-clause-all : goal.returns-in-Some-clause-all
returns-in-Some-clause-all g c =
    let whole : c.as_slice.result.now ++ c.in-Some.log ≡ c.args.self = ap (λ (xs : List ℕ). xs ++ c.in-Some.log) c.as_slice.ensures ∙ ap (λ (log : Option (List ℕ)). c.self.inside.bytes ++ unwrap_or log []) (sym c.in-Some.is) ∙ c.self.view_is in
    subst (λ (text : List ℕ). OnOk c.give.result (Gives (place_of c.args.target) text [] (g.D.Desk.view c.args.desk.now) (g.D.Desk.view c.give.new.desk))) whole
    (then_put c.give.result (place_of c.args.target) c.as_slice.result.now [] c.in-Some.log (g.D.Desk.view c.args.desk.now) (g.D.Desk.view c.put.new.desk) (g.D.Desk.view c.give.new.desk) refl c.in_ok-put.ensures.all c.give.ensures.all)

pub returns-in-Some-clause-some : goal.returns-in-Some-clause-some
returns-in-Some-clause-some g c =
    let whole : c.as_slice.result.now ++ c.in-Some.log ≡ c.args.self = ap (λ (xs : List ℕ). xs ++ c.in-Some.log) c.as_slice.ensures ∙ ap (λ (log : Option (List ℕ)). c.self.inside.bytes ++ unwrap_or log []) (sym c.in-Some.is) ∙ c.self.view_is in
    subst (λ (text : List ℕ). OnErr c.give.result (GivesSome (place_of c.args.target) text (g.D.Desk.view c.args.desk.now) (g.D.Desk.view c.give.new.desk))) whole
    (then_stop c.give.result (place_of c.args.target) c.as_slice.result.now [] c.in-Some.log (g.D.Desk.view c.args.desk.now) (g.D.Desk.view c.put.new.desk) (g.D.Desk.view c.give.new.desk) refl c.in_ok-put.ensures.all c.give.ensures.some)
