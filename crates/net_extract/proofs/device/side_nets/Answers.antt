use Rattle.net_extract.specs.Areas.{cells_in}
use Rattle.net_extract.specs.Pieces.{rect_of}
use Rattle.net_extract.proofs.Siding.{drain_proper}
use Rattle.net_extract.proofs.device.side_nets.Goals as goal

pub side_net-requires-in-Some-clause-area : goal.side_net-requires-in-Some-clause-area
side_net-requires-in-Some-clause-area c = drain_proper c.args.current (rect_of c.args.gate.now) (cells_in c.drain.result) c.requires.gate c.drain.ensures
