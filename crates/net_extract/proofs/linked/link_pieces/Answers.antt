use Rattle.std.proofs.Common.{subst}
use Rattle.net_extract.specs.Links.{AreInOneTree}
use Rattle.net_extract.proofs.LinkTrees.{one_tree_linked}
use Rattle.net_extract.proofs.linked.link_pieces.Goals as goal

pub returns-then-are_in_one_tree : goal.returns-then-are_in_one_tree
returns-then-are_in_one_tree c = one_tree_linked c.args.link.now c.args.pieces.now c.args.parents.now.items c.requires.count c.requires.low (subst (λ z. AreInOneTree z c.args.link.now c.args.pieces.now) c.as_slice.ensures.value (c.are_in_one_tree.ensures c.if-are_in_one_tree.true))
