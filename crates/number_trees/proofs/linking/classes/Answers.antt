use Rattle.number_trees.proofs.Links.{labels_separate}
use Rattle.number_trees.proofs.linking.classes.Goals as goal

pub returns-clause-same : goal.returns-clause-same
returns-clause-same c = labels_separate c.args.count c.args.links.now c.join_links.new.parents.items c.raise_all.new.parents.items c.join_links.ensures c.raise_all.ensures
