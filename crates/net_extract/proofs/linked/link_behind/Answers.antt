use Rattle.std.proofs.Common.{arith, sym, ◌∙◌}
use Rattle.net_extract.proofs.LinkTrees.{first_tried, one_more_tried, tried_short, all_tried, tried_low}
use Rattle.net_extract.proofs.linked.link_behind.Goals as goal

pub loop-later-init : goal.loop-later-init
loop-later-init c = first_tried c.args.link.now c.args.pieces.now c.args.at c.args.parents.now.items c.requires.count c.requires.low

pub loop-later-preserved : goal.loop-later-preserved
loop-later-preserved c = one_more_tried c.args.link.now c.args.pieces.now c.args.at c.loop-later.later c.args.parents.now.items c.loop-later.parents.items c.try_link.new.parents.items c.loop-later.invariant c.try_link.ensures

pub try_link-requires-clause-low : goal.try_link-requires-clause-low
try_link-requires-clause-low c = tried_low c.args.link.now c.args.pieces.now c.args.at c.loop-later.later c.args.parents.now.items c.loop-later.parents.items c.loop-later.invariant

pub try_link-requires-clause-count : goal.try_link-requires-clause-count
try_link-requires-clause-count c = c.loop-later.invariant.sound.count

pub returns-then-is_above : goal.returns-then-is_above
returns-then-is_above c = tried_short c.args.link.now c.args.pieces.now c.requires.sorted c.args.at c.loop-later.later c.args.parents.now.items c.loop-later.parents.items (omega arith) (sym c.is_above.ensures ∙ c.if-is_above.true) c.loop-later.invariant

pub returns : goal.returns
returns c = all_tried c.args.link.now c.args.pieces.now c.args.at c.loop-later.later c.args.parents.now.items c.loop-later.parents.items (omega arith) c.loop-later.invariant
