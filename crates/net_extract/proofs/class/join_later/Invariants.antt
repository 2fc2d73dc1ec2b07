use Rattle.std.proofs.Common.{[], length}
use Rattle.scmos_rules.specs.declared.rules.Deck.TheVariants.{Plain}
use Rattle.number_trees.specs.Classes.{AreTried}
use Rattle.net_extract.specs.Bonds.{Paired}
use Rattle.net_extract.proofs.class.join_later.Given as goal

abbrev pub invariant-loop-later : goal.invariant-loop-later
invariant-loop-later l = AreTried (length l.pieces) (Paired Plain [] l.pieces) (Paired Plain [] l.pieces) l.at l.later l.fn.parents.items l.parents.items
