use Rattle.std.proofs.Common.{◌≡◌, ◌++◌, replicate}
use Rattle.spice_net.proofs.nets.add_copies.Given as goal

abbrev pub invariant-loop : goal.invariant-loop
invariant-loop l = l.out ≡ l.fn.out ++ replicate l.counter l.device
