use Rattle.row_place.proofs.Placed.{placement_is, only_placement}
use Rattle.row_place.proofs.Bounds.{few_nodes, few_gates}
use Rattle.row_place.proofs.laws.one_placement.Goals as goal

pub returns-clause-is : goal.returns-clause-is
returns-clause-is c = placement_is

pub returns-clause-only : goal.returns-clause-only
returns-clause-only c = only_placement

pub returns-clause-few_nodes : goal.returns-clause-few_nodes
returns-clause-few_nodes c = few_nodes

pub returns-clause-few_gates : goal.returns-clause-few_gates
returns-clause-few_gates c = few_gates
