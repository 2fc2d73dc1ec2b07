use Rattle.std.proofs.Common.{refl}
use Rattle.net_extract.proofs.Carving.{proper_of_limits}
use Rattle.net_extract.proofs.Ties.{taps_from, few_ties}
use Rattle.net_extract.proofs.connections.tapped_connections.Goals as goal

pub ordered_pieces-requires-clause-proper : goal.ordered_pieces-requires-clause-proper
ordered_pieces-requires-clause-proper c = proper_of_limits c.args.shapes.now c.requires.limits

pub connect-requires-clause-ties : goal.connect-requires-clause-ties
connect-requires-clause-ties c = taps_from c.args.shapes.now c.in_ok-pieces.pieces.items c.as_slice.result.now c.as_slice-2.result.now c.args.wells.now c.args.wells.now (c.requires.wells.nets refl).firsts c.in_ok-ties.ties.items c.as_slice-3.result.now refl c.as_slice.ensures.value c.as_slice-2.ensures.value c.in_ok-ties.ensures c.as_slice-3.ensures.value (proper_of_limits c.args.shapes.now c.requires.limits) c.in_ok-pieces.ensures.drawn (c.requires.wells.nets refl).nets

pub connect-requires-clause-few : goal.connect-requires-clause-few
connect-requires-clause-few c = few_ties c.args.shapes.now c.in_ok-pieces.pieces.items c.as_slice.result.now c.as_slice-2.result.now c.args.wells.now c.in_ok-ties.ties.items c.as_slice-3.result.now c.as_slice.ensures.value c.as_slice-2.ensures.value c.in_ok-ties.ensures c.as_slice-3.ensures.value
