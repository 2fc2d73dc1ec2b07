use Rattle.net_extract.proofs.LinkTrees.{linked_tried, apart_tried}
use Rattle.net_extract.proofs.linked.try_link.Goals as goal

pub returns-then-are_linked : goal.returns-then-are_linked
returns-then-are_linked c = linked_tried c.args.link.now c.args.pieces.now c.args.at c.args.later c.args.parents.now.items c.join.new.parents.items c.requires.count c.requires.low c.requires.at c.requires.later (c.are_linked.ensures.0 c.if-are_linked.true) c.join.ensures

pub returns-else-are_linked : goal.returns-else-are_linked
returns-else-are_linked c = apart_tried c.args.link.now c.args.pieces.now c.args.at c.args.later c.args.parents.now.items c.requires.count c.requires.low (λ j. let t = c.are_linked.ensures.1 j in let f = c.if-are_linked.false in absurd cc)
