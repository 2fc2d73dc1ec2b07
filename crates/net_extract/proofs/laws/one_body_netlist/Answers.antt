use Rattle.net_extract.proofs.OneBody.{one_body_netlist, only_memory_with}
use Rattle.net_extract.proofs.laws.one_body_netlist.Goals as goal

pub returns-clause-same : goal.returns-clause-same
returns-clause-same c = one_body_netlist

pub returns-clause-refused : goal.returns-clause-refused
returns-clause-refused c = only_memory_with
