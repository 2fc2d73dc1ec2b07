use Rattle.std.proofs.Common.{IfOk, subst, ◌∙◌}
use Rattle.net_extract.specs.Connections.{firsts_of}
use Rattle.net_extract.specs.GateNets.{AreFound, IsOddFault, boxes_of}
use Rattle.net_extract.proofs.Extracting.{if_err, odd_refused}
use Rattle.net_extract.proofs.drawing.all_devices.Goals as goal

pub returns-clause-ok : goal.returns-clause-ok
returns-clause-ok c = subst (λ s. IfOk c.devices.result (AreFound c.args.map.now.deck s (firsts_of c.args.map.now.firsts.items) (boxes_of c.args.gates.now.wires.items c.args.gates.now.firsts.items))) (c.in-Ok.ensures ∙ c.as_slice.ensures) c.devices.ensures.ok

pub returns-clause-refused : goal.returns-clause-refused
returns-clause-refused c = if_err _ _ c.devices.result (λ f is. odd_refused c.args.map.now.deck c.args.shapes.now f c.requires.few (subst (λ s. IsOddFault c.args.map.now.deck s f) (c.in-Ok.ensures ∙ c.as_slice.ensures) is)) c.devices.ensures.odd
