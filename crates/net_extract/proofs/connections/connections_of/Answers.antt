use Rattle.std.proofs.Common.{◌≡◌, [], arith}
use Rattle.net_extract.proofs.Ties.{plain_ties}
use Rattle.net_extract.proofs.connections.connections_of.Goals as goal

pub connect-requires-clause-ties : goal.connect-requires-clause-ties
connect-requires-clause-ties c =
    let a = c.as_slice-2.ensures.value in
    let b = c.new-ties.ensures in
    let e : c.as_slice-2.result.now ≡ [] = grind (arith) in
    plain_ties c.args.shapes.now c.as_slice.result.now c.as_slice-2.result.now e
