use Rattle.std.proofs.Common.{◌≡◌, ◌++◌, drop, flat_map}
use Rattle.channel_route.specs.Wires.{over, constraints_of}
use Rattle.channel_route.proofs.constraint.constraints.Given as goal

abbrev pub invariant-loop-p : goal.invariant-loop-p
invariant-loop-p l = l.constraints.items ++ flat_map (λ p. flat_map (over l.wires p) l.nodes) (drop l.p-index l.nodes) ≡ constraints_of l.wires l.nodes
