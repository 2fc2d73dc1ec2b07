use Rattle.std.proofs.Common.{◌≡◌, take}
use Rattle.spice_net.specs.Nets.{distinct}
use Rattle.spice_net.specs.Reader.{names_of}
use Rattle.spice_net.proofs.nets.distinct_names.Given as goal

abbrev pub invariant-loop-name : goal.invariant-loop-name
invariant-loop-name l = names_of l.nets.keys ≡ distinct (take l.name-index l.names)
