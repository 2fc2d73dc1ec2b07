use Rattle.net_extract.proofs.Extracting.{if_ok}
use Rattle.net_extract.proofs.Netting.{pieces_proper, heads_from, net_from, few_from, few_numbered}
use Rattle.net_extract.proofs.connections.connect.Goals as goal

pub net_labels-requires-clause-proper : goal.net_labels-requires-clause-proper
net_labels-requires-clause-proper c = pieces_proper c.args.shapes.now c.args.pieces.now c.requires.drawn

pub number_all-requires-clause-labels : goal.number_all-requires-clause-labels
number_all-requires-clause-labels c = heads_from c.args.deck c.args.shapes.now c.args.pieces.now c.in_ok-labels.labels.items c.as_slice.result.now c.as_slice.ensures.value c.in_ok-labels.ensures

pub number_all-requires-clause-few : goal.number_all-requires-clause-few
number_all-requires-clause-few c = few_from c.args.deck c.args.shapes.now c.args.pieces.now c.in_ok-labels.labels.items c.as_slice.result.now c.as_slice.ensures.value c.requires.drawn c.requires.sorted c.requires.corners c.in_ok-labels.ensures

pub returns-clause-wires : goal.returns-clause-wires
returns-clause-wires c = if_ok _ _ c.number_all.result (λ m is. net_from c.args.deck c.args.shapes.now c.args.pieces.now c.in_ok-labels.labels.items c.as_slice.result.now m.wires.items m.firsts.items c.as_slice.ensures.value c.requires.drawn c.requires.sorted c.in_ok-labels.ensures is) c.number_all.ensures.numbered

pub returns-clause-few : goal.returns-clause-few
returns-clause-few c = if_ok _ _ c.number_all.result (λ m is. few_numbered c.args.pieces.now c.as_slice.result.now m.wires.items m.firsts.items (few_from c.args.deck c.args.shapes.now c.args.pieces.now c.in_ok-labels.labels.items c.as_slice.result.now c.as_slice.ensures.value c.requires.drawn c.requires.sorted c.requires.corners c.in_ok-labels.ensures) is) c.number_all.ensures.numbered
