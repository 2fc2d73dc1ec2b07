use Rattle.std.proofs.Common.{◌∙◌}
use Rattle.track_check.proofs.Around.{open_is}
use Rattle.track_check.proofs.nets.StateNets.is_open.Goals as goal

pub returns : goal.returns
returns c = λ k s are. c.is_open_in.ensures ∙ open_is c.args.pins.now k s c.args.self.now c.args.net are
