use Rattle.std.proofs.Common.{subst}
use Rattle.number_trees.specs.Classes.{InTree}
use Rattle.number_trees.proofs.Tying.{eq_of_eqb}
use Rattle.net_extract.proofs.linked.is_under.Goals as goal

pub returns-then-does_reach : goal.returns-then-does_reach
returns-then-does_reach c = λ t e. subst (InTree c.args.parents.now c.args.at) (eq_of_eqb c.root.result c.args.first t) c.root.ensures.root.tree

pub returns : goal.returns
returns c = λ t e. let f = c.if-does_reach.false in let g = c.does_reach.ensures in absurd cc
