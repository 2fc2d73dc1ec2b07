use Rattle.std.proofs.Common.{[], length}
use Rattle.scmos_rules.specs.declared.rules.Deck.TheVariants.{Plain}
use Rattle.net_extract.specs.Bonds.{Paired}
use Rattle.number_trees.proofs.Classing.{AreSettled}
use Rattle.net_extract.proofs.class.join_touching.Given as goal

abbrev pub invariant-loop-at : goal.invariant-loop-at
invariant-loop-at l = AreSettled (length l.pieces) (Paired Plain [] l.pieces) (Paired Plain [] l.pieces) l.at l.fn.parents.items l.parents.items
