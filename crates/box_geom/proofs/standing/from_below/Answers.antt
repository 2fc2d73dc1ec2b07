use Rattle.std.proofs.Common.{rules}
use Rattle.std.proofs.lemmas.List.Sorted.{answers_always}
use Rattle.box_geom.proofs.Rising.{lower, rising_of}
use Rattle.box_geom.proofs.standing.from_below.Goals as goal

pub returns-clause-rising : goal.returns-clause-rising
returns-clause-rising c = rising_of _ (c.sort_unstable_by_key.ensures.sorted lower (answers_always _ _ _ (λ f a r g h. search rules)))
