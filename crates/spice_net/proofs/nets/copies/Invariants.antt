use Rattle.std.proofs.Common.{◌≡◌, take}
use Rattle.spice_net.specs.Reader.{names_of}
use Rattle.spice_net.proofs.nets.copies.Given as goal

abbrev pub invariant-loop-name : goal.invariant-loop-name
invariant-loop-name l = l.names ≡ names_of (take l.name-index l.nets.keys)
