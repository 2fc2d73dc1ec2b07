use Rattle.net_extract.proofs.Bonds.{one_net}
use Rattle.net_extract.proofs.laws.rectangle_nets.Goals as goal

pub returns : goal.returns
returns c = one_net
