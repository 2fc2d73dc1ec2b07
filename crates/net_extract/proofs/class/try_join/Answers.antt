use Rattle.std.proofs.Common.{[], length}
use Rattle.scmos_rules.specs.declared.rules.Deck.TheVariants.{Plain}
use Rattle.net_extract.specs.Bonds.{Paired}
use Rattle.net_extract.specs.Connections.{blank}
use Rattle.number_trees.proofs.Classing.{apart_is}
use Rattle.number_trees.proofs.Forests.{joining_is, sound_low}
use Rattle.net_extract.proofs.Pairing.{paired_back, paired_of, bond_of_pair}
use Rattle.net_extract.proofs.class.try_join.Goals as goal

pub returns-then-are_touching : goal.returns-then-are_touching
returns-then-are_touching c = joining_is (length c.args.pieces.now) (Paired Plain [] c.args.pieces.now) (Paired Plain [] c.args.pieces.now) (paired_back Plain [] c.args.pieces.now) c.args.at c.args.later c.args.parents.now.items c.join.new.parents.items c.requires.at c.requires.later (paired_of Plain [] c.args.pieces.now c.args.at c.args.later blank c.requires.at c.requires.later (c.are_touching.ensures.0 c.if-are_touching.true)) c.requires.sound c.join.ensures

pub returns-else-are_touching : goal.returns-else-are_touching
returns-else-are_touching c = apart_is (length c.args.pieces.now) (Paired Plain [] c.args.pieces.now) (Paired Plain [] c.args.pieces.now) c.args.at c.args.later c.args.parents.now.items c.requires.sound (λ p. let t = c.are_touching.ensures.1 (bond_of_pair Plain [] c.args.pieces.now c.args.at c.args.later blank p) in let f = c.if-are_touching.false in absurd cc)

pub join-requires-clause-low : goal.join-requires-clause-low
join-requires-clause-low c = sound_low (length c.args.pieces.now) (Paired Plain [] c.args.pieces.now) c.args.parents.now.items c.requires.sound
