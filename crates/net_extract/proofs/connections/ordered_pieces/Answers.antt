use Rattle.std.proofs.Common.{◌∙◌}
use Rattle.net_extract.proofs.Cornering.{sorted_corners}
use Rattle.net_extract.proofs.connections.ordered_pieces.Goals as goal

pub returns-clause-few : goal.returns-clause-few
returns-clause-few c = sorted_corners c.args.shapes.now c.into_vec.result.items c.sorted.result.items c.requires.few (c.into_vec.ensures ∙ c.in_ok-pieces.ensures) c.sorted.ensures.moved
