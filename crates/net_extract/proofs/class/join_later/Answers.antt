use Rattle.std.proofs.Common.{[], length, arith, sym, ◌∙◌}
use Rattle.scmos_rules.specs.declared.rules.Deck.TheVariants.{Plain}
use Rattle.net_extract.specs.Bonds.{Paired}
use Rattle.number_trees.proofs.Classing.{none_tried, more_tried, tried_all}
use Rattle.net_extract.proofs.Links.{tried_below}
use Rattle.net_extract.proofs.class.join_later.Goals as goal

pub loop-later-init : goal.loop-later-init
loop-later-init c = none_tried (length c.args.pieces.now) (Paired Plain [] c.args.pieces.now) (Paired Plain [] c.args.pieces.now) c.args.at c.args.parents.now.items c.requires.sound

pub loop-later-preserved : goal.loop-later-preserved
loop-later-preserved c = more_tried (length c.args.pieces.now) (Paired Plain [] c.args.pieces.now) (Paired Plain [] c.args.pieces.now) c.args.at c.loop-later.later c.args.parents.now.items c.loop-later.parents.items c.try_join.new.parents.items c.loop-later.invariant c.try_join.ensures

pub returns-then-is_below : goal.returns-then-is_below
returns-then-is_below c = tried_below [] c.args.pieces.now c.requires.sorted c.args.at c.loop-later.later c.args.parents.now.items c.loop-later.parents.items (omega arith) (sym c.is_below.ensures ∙ c.if-is_below.true) c.loop-later.invariant

pub returns : goal.returns
returns c = tried_all (length c.args.pieces.now) (Paired Plain [] c.args.pieces.now) (Paired Plain [] c.args.pieces.now) c.args.at c.loop-later.later c.args.parents.now.items c.loop-later.parents.items (omega arith) c.loop-later.invariant
