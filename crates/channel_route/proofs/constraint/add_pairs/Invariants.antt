use Rattle.std.proofs.Common.{◌≡◌, ◌++◌, [], drop, cond, flat_map}
use Rattle.channel_route.specs.Wires.{holds_place, under, pairs_over}
use Rattle.channel_route.proofs.constraint.add_pairs.Given as goal

abbrev pub invariant-loop-upper : goal.invariant-loop-upper
invariant-loop-upper l = l.constraints.items ++ flat_map (λ upper. cond (holds_place l.p upper) (under l.wires l.n upper) []) (drop l.upper-index l.wires) ≡ l.fn.constraints.items ++ pairs_over l.wires l.p l.n
