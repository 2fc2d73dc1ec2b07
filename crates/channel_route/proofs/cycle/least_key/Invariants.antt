use Rattle.std.proofs.Common.{◌≡◌, ◌≤◌, true, take, All}
use Rattle.channel_route.specs.Turn.{steps, passes}
use Rattle.channel_route.proofs.cycle.least_key.Given as goal

abbrev pub invariant-loop-step : goal.invariant-loop-step
invariant-loop-step l = (passes steps l.turn l.least ≡ true) × All (λ a. l.least ≤ a.wire.key) (take l.step-index l.turn)
