use Rattle.std.proofs.Common.{◌≡◌, ◌≤◌}
use Rattle.first_route.specs.Ways.{empty_tracks}
use Rattle.first_route.proofs.room.empty_tracks.Given as goal

abbrev pub invariant-loop-track : goal.invariant-loop-track
invariant-loop-track l = (l.empty ≡ empty_tracks l.track l.placed) × (l.empty ≤ l.track)
