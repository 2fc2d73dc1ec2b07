use Rattle.std.proofs.Common.{length, arith, sym, ◌∙◌}
use Rattle.net_extract.proofs.LinkTrees.{first_settled, one_more_settled, settled_short, settled_linked, settled_low}
use Rattle.net_extract.proofs.linked.link_all.Goals as goal

pub loop-at-init : goal.loop-at-init
loop-at-init c = first_settled c.args.link.now c.args.pieces.now c.args.parents.now.items c.requires.count c.requires.low

pub loop-at-preserved : goal.loop-at-preserved
loop-at-preserved c = one_more_settled c.args.link.now c.args.pieces.now c.loop-at.at c.args.parents.now.items c.loop-at.parents.items c.link_later.new.parents.items c.loop-at.invariant c.link_later.ensures

pub link_later-requires-clause-low : goal.link_later-requires-clause-low
link_later-requires-clause-low c = settled_low c.args.link.now c.args.pieces.now c.loop-at.at c.args.parents.now.items c.loop-at.parents.items c.loop-at.invariant

pub link_later-requires-clause-count : goal.link_later-requires-clause-count
link_later-requires-clause-count c = c.loop-at.invariant.sound.count

pub returns-then-is_above : goal.returns-then-is_above
returns-then-is_above c = settled_linked c.args.link.now c.args.pieces.now (length c.args.pieces.now) c.args.parents.now.items c.loop-at.parents.items (omega arith) (settled_short c.args.link.now c.args.pieces.now c.requires.sorted c.loop-at.at c.args.parents.now.items c.loop-at.parents.items (omega arith) (sym c.is_above.ensures ∙ c.if-is_above.true) c.loop-at.invariant)

pub returns : goal.returns
returns c = settled_linked c.args.link.now c.args.pieces.now c.loop-at.at c.args.parents.now.items c.loop-at.parents.items (omega arith) c.loop-at.invariant
