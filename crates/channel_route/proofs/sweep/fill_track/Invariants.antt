use Rattle.channel_route.proofs.Sweeps.{Sweeps}
use Rattle.channel_route.proofs.sweep.fill_track.Given as goal

-- the sweep goes on, and a wire was put on the track or all so far wait
abbrev pub invariant-loop-wire : goal.invariant-loop-wire
invariant-loop-wire l = Sweeps l.constraints l.left l.fn.placed.items l.placed.items l.still.items l.track l.last l.wire-index
