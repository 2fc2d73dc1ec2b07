use Rattle.std.proofs.Common.{◌≡◌, ◌++◌, drop, map}
use Rattle.channel_route.specs.Turn.{above_of}
use Rattle.channel_route.proofs.channel.nets_of.Given as goal

abbrev pub invariant-loop-step : goal.invariant-loop-step
invariant-loop-step l = l.nets.items ++ map above_of (drop l.step-index l.cycle) ≡ map above_of l.cycle
