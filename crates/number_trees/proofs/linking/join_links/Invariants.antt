use Rattle.std.proofs.Common.{take}
use Rattle.number_trees.specs.Classes.{AreTrees}
use Rattle.number_trees.specs.Links.{Tied}
use Rattle.number_trees.proofs.linking.join_links.Given as goal

abbrev pub invariant-loop-link : goal.invariant-loop-link
invariant-loop-link l = AreTrees l.count (Tied (take l.link-index l.links)) l.parents.items
