use Rattle.std.proofs.Common.{[], length, arith}
use Rattle.scmos_rules.specs.declared.rules.Deck.TheVariants.{Plain}
use Rattle.net_extract.specs.Bonds.{Paired}
use Rattle.number_trees.proofs.Classing.{first_sound, none_settled, more_settled, settled_trees}
use Rattle.net_extract.proofs.Pairing.{paired_back, paired_below}
use Rattle.net_extract.proofs.class.join_touching.Goals as goal

pub loop-at-init : goal.loop-at-init
loop-at-init c = none_settled (length c.args.pieces.now) (Paired Plain [] c.args.pieces.now) (Paired Plain [] c.args.pieces.now) c.args.parents.now.items (first_sound (length c.args.pieces.now) (Paired Plain [] c.args.pieces.now) c.args.parents.now.items c.requires.first)

pub loop-at-preserved : goal.loop-at-preserved
loop-at-preserved c = more_settled (length c.args.pieces.now) (Paired Plain [] c.args.pieces.now) (Paired Plain [] c.args.pieces.now) (paired_below Plain [] c.args.pieces.now) c.loop-at.at c.args.parents.now.items c.loop-at.parents.items c.join_later.new.parents.items c.loop-at.invariant c.join_later.ensures

pub returns : goal.returns
returns c = settled_trees (length c.args.pieces.now) (Paired Plain [] c.args.pieces.now) (paired_back Plain [] c.args.pieces.now) (paired_below Plain [] c.args.pieces.now) c.loop-at.at c.args.parents.now.items c.loop-at.parents.items (omega arith) c.loop-at.invariant
