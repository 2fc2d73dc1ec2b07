use Rattle.std.proofs.Common.{◌≡◌, map, drop}
use Rattle.trail_log.specs.Listed.{each_in}
use Rattle.trail_log.proofs.Each.{with_items}
use Rattle.order_log.proofs.list.each_of.Given as goal

abbrev pub invariant-loop-word : goal.invariant-loop-word
invariant-loop-word g l =
    with_items l.items (each_in (g.T.Item.said l.nets) (map (λ word. word.now) (drop l.word-index l.words)))
    ≡ each_in (g.T.Item.said l.nets) (map (λ word. word.now) l.words)
