use Rattle.std.proofs.Common.{arith, sym, ◌∙◌}
use Rattle.net_extract.proofs.LinkTrees.{none_under, more_under, under_short, under_all}
use Rattle.net_extract.proofs.linked.are_under.Goals as goal

pub loop-at-init : goal.loop-at-init
loop-at-init c = none_under c.args.parents.now c.args.link.now c.args.pieces.now c.args.from c.args.first

pub loop-at-preserved : goal.loop-at-preserved
loop-at-preserved c = more_under c.args.parents.now c.args.link.now c.args.pieces.now c.args.from c.loop-at.at c.args.first (c.is_under.ensures c.if-not-is_under.false) c.loop-at.invariant

pub returns-then-is_above : goal.returns-then-is_above
returns-then-is_above c = λ t. under_short c.args.parents.now c.args.link.now c.args.pieces.now c.requires.sorted c.args.from c.loop-at.at c.args.first (omega arith) (sym c.is_above.ensures ∙ c.if-is_above.true) c.loop-at.invariant

pub returns : goal.returns
returns c = λ t. under_all c.args.parents.now c.args.link.now c.args.pieces.now c.args.from c.loop-at.at c.args.first (omega arith) c.loop-at.invariant
