use Rattle.lef_write.proofs.Named.{has_ports}
use Rattle.lef_write.proofs.NetPorts.{of_net}
use Rattle.lef_write.proofs.Sized.{wired_sized}
use Rattle.lef_write.proofs.TrunkPorts.{trunk_ports}
use Rattle.lef_write.proofs.laws.wired_ports.Goals as goal

pub returns-clause-ports : goal.returns-clause-ports
returns-clause-ports c = has_ports

pub returns-clause-size : goal.returns-clause-size
returns-clause-size c = wired_sized

pub returns-clause-nets : goal.returns-clause-nets
returns-clause-nets c = of_net

pub returns-clause-trunks : goal.returns-clause-trunks
returns-clause-trunks c = trunk_ports
