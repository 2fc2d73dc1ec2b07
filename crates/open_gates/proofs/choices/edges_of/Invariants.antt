use Rattle.std.proofs.Common.{◌≡◌, take}
use Rattle.open_gates.specs.Listed.{edges_of}
use Rattle.open_gates.proofs.choices.edges_of.Given as goal

abbrev pub invariant-loop-way : goal.invariant-loop-way
invariant-loop-way l = l.all ≡ edges_of (take l.way-index l.ways)
