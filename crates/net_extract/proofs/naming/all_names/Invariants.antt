use Rattle.std.proofs.Common.{◌≡◌}
use Rattle.net_extract.specs.Naming.{names_of}
use Rattle.net_extract.proofs.naming.all_names.Given as goal

abbrev pub invariant-loop-net : goal.invariant-loop-net
invariant-loop-net l = l.names ≡ names_of l.held l.net
