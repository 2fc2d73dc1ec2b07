use Rattle.std.proofs.Common.{◌≡◌, ◌++◌, drop, map}
use Rattle.channel_route.specs.Graph.{trunk_of}
use Rattle.channel_route.proofs.channel.trunks_of.Given as goal

abbrev pub invariant-loop-one : goal.invariant-loop-one
invariant-loop-one l = l.trunks.items ++ map trunk_of (drop l.one-index l.placed) ≡ map trunk_of l.placed
