use Rattle.std.proofs.Common.{rules, ◌≡◌, ◌∷◌, ◌∙◌}
use Rattle.open_gates.specs.Leveled.{choices_in}
use Rattle.open_gates.proofs.Closed.{levels_more}
use Rattle.open_gates.proofs.level.+list_within.Goals as goal

pub returns-clause-levels : goal.returns-clause-levels
returns-clause-levels t c =
    let first : c.args.order.now ≡ c.in-Some.gate.now ∷ c.in-Some.later.now = search rules in
    let chosen : c.in-Some-2.choices ≡ choices_in c.args.fingers.now c.args.opened.now c.in-Some.gate.now.0 = search rules in
    c.in_ok-all.ensures
    ∙ levels_more c.args.fingers.now c.args.opened.now c.args.order.now c.in-Some.gate.now c.in-Some.later.now
    c.in-Some-2.choices c.in_ok-level.level c.in-Ok.levels.items first chosen c.in_ok-level.ensures c.in-Ok.ensures.levels
