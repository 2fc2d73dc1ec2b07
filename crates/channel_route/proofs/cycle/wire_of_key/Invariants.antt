use Rattle.std.proofs.Common.{◌≡◌, true, drop}
use Rattle.channel_route.specs.Graph.{has_key}
use Rattle.channel_route.proofs.cycle.wire_of_key.Given as goal

-- it is one of those that are left
abbrev pub invariant-loop-wire : goal.invariant-loop-wire
invariant-loop-wire l = has_key (drop l.wire-index l.left) l.key ≡ true
