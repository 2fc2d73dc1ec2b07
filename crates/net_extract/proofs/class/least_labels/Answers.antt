use Rattle.std.proofs.Common.{length, subst}
use Rattle.scmos_rules.specs.declared.rules.Deck.TheVariants.{Plain}
use Rattle.number_trees.specs.Classes.{AreTrees}
use Rattle.net_extract.specs.Bonds.{Paired}
use Rattle.number_trees.specs.Ties.{InTreeOrTied}
use Rattle.net_extract.specs.Ties.{PairedOrTied}
use Rattle.number_trees.proofs.Forests.{sound_low, trees_least}
use Rattle.net_extract.proofs.Tying.{met_back, met_trees}
use Rattle.net_extract.proofs.class.least_labels.Goals as goal

pub join_tied-requires-clause-low : goal.join_tied-requires-clause-low
join_tied-requires-clause-low c = sound_low (length c.args.pieces.now) (Paired Plain c.args.links.now c.args.pieces.now) c.join_linked.new.parents.items c.join_linked.ensures.sound

pub returns : goal.returns
returns c =
    let n = length c.args.pieces.now in
    let old = c.join_linked.new.parents.items in
    let new = c.join_tied.new.parents.items in
    let tied : AreTrees n (InTreeOrTied old c.args.ties.now) new = subst (λ k. AreTrees k (InTreeOrTied old c.args.ties.now) new) c.join_linked.ensures.sound.count c.join_tied.ensures in
    trees_least n (PairedOrTied c.args.links.now c.args.pieces.now c.args.ties.now) (met_back c.args.links.now c.args.pieces.now c.args.ties.now) new c.raise_all.new.parents.items (met_trees n c.args.links.now c.args.pieces.now c.args.ties.now old new c.join_linked.ensures tied) c.raise_all.ensures
