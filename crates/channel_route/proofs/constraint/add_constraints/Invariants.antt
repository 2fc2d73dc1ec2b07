use Rattle.std.proofs.Common.{◌≡◌, ◌++◌, drop, flat_map}
use Rattle.channel_route.specs.Wires.{over}
use Rattle.channel_route.proofs.constraint.add_constraints.Given as goal

abbrev pub invariant-loop-n : goal.invariant-loop-n
invariant-loop-n l = l.constraints.items ++ flat_map (over l.wires l.p) (drop l.n-index l.nodes) ≡ l.fn.constraints.items ++ flat_map (over l.wires l.p) l.nodes
