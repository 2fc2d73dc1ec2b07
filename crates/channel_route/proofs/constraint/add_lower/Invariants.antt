use Rattle.std.proofs.Common.{◌≡◌, ◌++◌, drop}
use Rattle.channel_route.specs.Wires.{under}
use Rattle.channel_route.proofs.constraint.add_lower.Given as goal

abbrev pub invariant-loop-lower : goal.invariant-loop-lower
invariant-loop-lower l = l.constraints.items ++ under (drop l.lower-index l.wires) l.n l.upper ≡ l.fn.constraints.items ++ under l.wires l.n l.upper
