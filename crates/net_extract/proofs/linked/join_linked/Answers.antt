use Rattle.std.proofs.Common.{rules, sym}
use Rattle.net_extract.proofs.LinkTrees.{more_linked, all_linked, linked_low}
use Rattle.net_extract.proofs.linked.join_linked.Goals as goal

pub loop-link-preserved : goal.loop-link-preserved
loop-link-preserved c = more_linked c.args.links.now c.loop-link.link-index c.link-item.result c.link-item.result c.args.pieces.now c.loop-link.parents.items c.link_pieces.new.parents.items (search rules) (sym c.link-item.is) c.loop-link.invariant c.link_pieces.ensures

pub link_pieces-requires-clause-low : goal.link_pieces-requires-clause-low
link_pieces-requires-clause-low c = linked_low c.args.links.now c.loop-link.link-index c.args.pieces.now c.loop-link.parents.items c.loop-link.invariant

pub link_pieces-requires-clause-count : goal.link_pieces-requires-clause-count
link_pieces-requires-clause-count c = c.loop-link.invariant.sound.count

pub returns : goal.returns
returns c = all_linked c.args.links.now c.loop-link.link-index c.args.pieces.now c.loop-link.parents.items (search rules) c.loop-link.invariant
