use Rattle.net_extract.proofs.Netlists.{one_netlist, only_memory}
use Rattle.net_extract.proofs.laws.one_netlist.Goals as goal

pub returns-clause-same : goal.returns-clause-same
returns-clause-same c = one_netlist

pub returns-clause-refused : goal.returns-clause-refused
returns-clause-refused c = only_memory
