use Rattle.std.proofs.Common.{◌∙◌, sym}
use Rattle.spice_net.proofs.NetFacts.{placed, not_placed}
use Rattle.spice_net.proofs.nets.number.Goals as goal

pub returns-in-Some : goal.returns-in-Some
returns-in-Some c = placed c.args.name.now c.args.nets.now.keys c.in-Some.at (sym c.in-Some.ensures.index)

pub returns-in-None : goal.returns-in-None
returns-in-None c = c.len.ensures.len ∙ not_placed c.args.name.now c.args.nets.now.keys (sym c.in-None.ensures.index)
