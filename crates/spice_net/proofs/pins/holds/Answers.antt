use Rattle.std.proofs.Common.{◌∙◌}
use Rattle.spice_net.proofs.NetFacts.{any_names}
use Rattle.spice_net.proofs.pins.holds.Goals as goal

pub returns : goal.returns
returns c = c.contains.ensures ∙ any_names c.args.name.now c.args.names.now.keys
