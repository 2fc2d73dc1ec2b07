use Rattle.std.proofs.Common.{rules, ◌≡◌}
use Rattle.trail_search.specs.Lists.{IsRight}
use Rattle.trail_search.proofs.Choices.{right_at}
use Rattle.trail_search.proofs.lists.find.Goals as goal

pub returns-then-is_of : goal.returns-then-is_of
returns-then-is_of c =
    let right : IsRight c.one-item.result = search rules in
    let same : c.one-item.result.gate ≡ c.args.gate.now = c.is_of.ensures c.if-is_of.true in
    right_at c.one-item.result c.args.gate.now right same
