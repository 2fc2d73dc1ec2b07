use Rattle.std.proofs.Common.{◌≡◌, take}
use Rattle.spice_net.specs.Nets.{named_nets}
use Rattle.spice_net.specs.Reader.{names_of, with_names}
use Rattle.spice_net.proofs.nets.with_nets.Given as goal

abbrev pub invariant-loop-transistor : goal.invariant-loop-transistor
invariant-loop-transistor l = names_of l.nets.keys ≡ with_names (names_of l.fn.names.keys) (named_nets (take l.transistor-index l.transistors))
