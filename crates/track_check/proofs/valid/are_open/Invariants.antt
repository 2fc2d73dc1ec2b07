use Rattle.std.proofs.Common.{◌≡◌, true, All, take}
use Rattle.row_state.specs.declared.kind.Kinds.{Kinds}
use Rattle.row_state.specs.declared.state.State.{State}
use Rattle.track_ways.specs.States.{is_open_at}
use Rattle.track_ways.specs.declared.track.NetTrack.{NetTrack}
use Rattle.track_check.specs.Touches.{AreNetsOf}
use Rattle.track_check.proofs.valid.are_open.Given as goal

abbrev pub invariant-loop-t : goal.invariant-loop-t
invariant-loop-t l = (k : Kinds) (s : State) → AreNetsOf k s l.nets → All (λ (t : NetTrack). is_open_at l.pins k s t.net ≡ true) (take l.t-index l.tracks)
