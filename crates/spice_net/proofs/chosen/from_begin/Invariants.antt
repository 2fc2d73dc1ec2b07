use Rattle.std.proofs.Common.{◌≡◌, drop}
use Rattle.spice_net.specs.Chosen.{begins, from_first}
use Rattle.spice_net.proofs.chosen.from_begin.Given as goal

abbrev pub invariant-loop-at : goal.invariant-loop-at
invariant-loop-at l = from_first (begins l.name) (drop l.at l.lines) ≡ from_first (begins l.name) l.lines
