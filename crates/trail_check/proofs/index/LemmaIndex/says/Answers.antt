use Rattle.std.proofs.Common.{rules, ◌≡◌, ap, ◌∙◌}
use Rattle.std.specs.List.{list_any}
use Rattle.trail_check.specs.Indexed.{noted_at, says_at, state_number}
use Rattle.trail_check.proofs.Found.{looked_up}
use Rattle.trail_check.proofs.index.LemmaIndex.says.Goals as goal

pub returns : goal.returns
returns c =
    let places : c.noted_at-places.result.now ≡ noted_at c.args.self.now (state_number c.args.done c.args.state.now) = search rules in
    c.is_said_at_one.ensures
    ∙ ap (list_any (says_at c.args.lemmas.now c.args.done c.args.state.now c.args.need)) places
    ∙ looked_up c.args.lemmas.now c.args.self.now c.args.done c.args.state.now c.args.need c.requires
