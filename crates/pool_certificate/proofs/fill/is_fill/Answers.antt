use Rattle.std.proofs.Common.{rules}
use Rattle.pool_certificate.proofs.Filled.{fill_decides}
use Rattle.pool_certificate.proofs.fill.is_fill.Goals as goal

pub returns-then-are_uneven : goal.returns-then-are_uneven
returns-then-are_uneven c =
    fill_decides c.args.fingers.now c.args.pools.now c.args.opened.now c.are_uneven.result _ c.requires (search rules)
    (λ all. search rules) (λ none. absurd cc)

pub returns-else-are_uneven : goal.returns-else-are_uneven
returns-else-are_uneven c =
    fill_decides c.args.fingers.now c.args.pools.now c.args.opened.now c.are_uneven.result c.are_uneven.result c.requires
    (search rules) (λ all. absurd cc) (λ none. none)
