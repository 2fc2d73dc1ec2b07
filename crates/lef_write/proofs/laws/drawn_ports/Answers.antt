use Rattle.channel_route.proofs.LegalWiring.{legal_wiring}
use Rattle.lef_write.proofs.Apart.{metal}
use Rattle.lef_write.proofs.Named.{has_port}
use Rattle.lef_write.proofs.NetPorts.{of_net}
use Rattle.lef_write.proofs.Sized.{sized}
use Rattle.lef_write.proofs.laws.drawn_ports.Goals as goal

pub returns-clause-ports : goal.returns-clause-ports
returns-clause-ports c = has_port

pub returns-clause-rest : goal.returns-clause-rest
returns-clause-rest c = metal

pub returns-clause-size : goal.returns-clause-size
returns-clause-size c = sized

pub returns-clause-nets : goal.returns-clause-nets
returns-clause-nets c = λ names pins p r xs height n is row legal allowed are lt. of_net names pins p r xs height n is row (legal_wiring p pins r legal) allowed are lt
