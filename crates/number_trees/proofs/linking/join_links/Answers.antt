use Rattle.std.proofs.Common.{◌≡◌, arith, subst, take}
use Rattle.number_trees.specs.Classes.{AreTrees}
use Rattle.number_trees.specs.Links.{Tied}
use Rattle.number_trees.proofs.Links.{none_linked, more_linked}
use Rattle.std.proofs.lemmas.List.{take_all}
use Rattle.number_trees.proofs.linking.join_links.Goals as goal

pub loop-link-init : goal.loop-link-init
loop-link-init c = none_linked c.args.count c.args.parents.now.items c.requires.first

pub loop-link-preserved : goal.loop-link-preserved
loop-link-preserved c = more_linked c.args.count c.args.links.now c.loop-link.link-index c.loop-link.parents.items c.join.new.parents.items c.loop-link-test.true c.requires.links c.join.ensures c.loop-link.invariant

pub returns : goal.returns
returns c = let e : take c.loop-link.link-index c.args.links.now ≡ c.args.links.now = take_all c.loop-link.link-index c.args.links.now (omega arith) in subst (λ es. AreTrees c.args.count (Tied es) c.loop-link.parents.items) e c.loop-link.invariant
