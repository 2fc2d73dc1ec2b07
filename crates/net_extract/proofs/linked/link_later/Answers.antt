use Rattle.std.proofs.Common.{sym, ◌∙◌}
use Rattle.net_extract.proofs.LinkTrees.{unreached_tried}
use Rattle.net_extract.proofs.linked.link_later.Goals as goal

pub returns-else-does_reach : goal.returns-else-does_reach
returns-else-does_reach c = unreached_tried c.args.link.now c.args.pieces.now c.args.at c.args.parents.now.items c.requires.count c.requires.low (sym c.does_reach.ensures ∙ c.if-does_reach.false)
