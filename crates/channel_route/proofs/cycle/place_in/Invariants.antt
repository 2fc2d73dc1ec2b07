use Rattle.std.proofs.Common.{◌≡◌, true, drop}
use Rattle.channel_route.specs.Turn.{steps, passes}
use Rattle.channel_route.proofs.cycle.place_in.Given as goal

-- it stands at one of the places that are left
abbrev pub invariant-loop-at : goal.invariant-loop-at
invariant-loop-at l = passes steps (drop l.at l.path) l.key ≡ true
