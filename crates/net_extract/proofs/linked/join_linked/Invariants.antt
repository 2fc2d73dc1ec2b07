use Rattle.std.proofs.Common.{length, take}
use Rattle.scmos_rules.specs.declared.rules.Deck.TheVariants.{Plain}
use Rattle.net_extract.specs.Bonds.{Paired}
use Rattle.number_trees.specs.Classes.{AreTrees}
use Rattle.net_extract.proofs.linked.join_linked.Given as goal

abbrev pub invariant-loop-link : goal.invariant-loop-link
invariant-loop-link l = AreTrees (length l.pieces) (Paired Plain (take l.link-index l.links) l.pieces) l.parents.items
