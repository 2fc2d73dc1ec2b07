use Rattle.net_extract.proofs.Extracting.{if_ok}
use Rattle.net_extract.proofs.Links.{least_of_links}
use Rattle.net_extract.proofs.connections.net_labels.Goals as goal

pub returns : goal.returns
returns c = if_ok _ _ c.least_labels.result (λ ls is. least_of_links c.args.deck c.args.shapes.now c.in_ok-links.links c.as_slice.result.now c.args.pieces.now c.args.ties.now ls.items c.in_ok-links.ensures c.as_slice.ensures c.requires.ties is) c.least_labels.ensures
