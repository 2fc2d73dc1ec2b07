use Rattle.std.proofs.Common.{◌≡◌, map, take}
use Rattle.channel_route.specs.Graph.{trunk_of}
use Rattle.first_route.proofs.first.placed_trunks.Given as goal

abbrev pub invariant-loop-one : goal.invariant-loop-one
invariant-loop-one l = l.trunks.items ≡ map trunk_of (take l.one-index l.placed)
