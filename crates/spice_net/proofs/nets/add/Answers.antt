use Rattle.spice_net.proofs.NetFacts.{insert_names}
use Rattle.spice_net.proofs.nets.add.Goals as goal

pub returns-in-Ok : goal.returns-in-Ok
returns-in-Ok c = insert_names c.args.name c.args.nets.now.keys c.insert_full.new.self.keys c.in-Ok.ensures.keys
