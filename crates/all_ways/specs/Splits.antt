-- Lists of tracks at a line, by the tracks of some nets.
use Rattle.std.specs.Prelude.{ℕ, ◌≡◌, ◌≤◌, Bool, false, List, [], length}
use Rattle.std.specs.List.{flat_map}
use Rattle.cell_num.specs.declared.net.NetNo.{NetNo}
use Rattle.cell_num.specs.declared.net.Pins.{Pins}
use Rattle.track_ways.specs.declared.line.Line.{Line}
use Rattle.track_ways.specs.declared.track.NetTrack.{NetTrack}
use Rattle.track_ways.specs.Ways.{LineWays, fills, nets_below, test_beside}

-- the tracks at a line are those that go on from all tracks of these nets
pub record SplitsAt
    (ways : LineWays) (pins : Pins) (nets : ℕ) (before : NetNo → Bool) (line : Line) (after : NetNo → Bool)
    (tracks : List NetTrack) (split : List NetNo) : Type 0 where
  pub each : (limit : ℕ) → ways pins limit (nets_below nets) before line after tracks
      ≡ flat_map (ways pins limit (nets_below nets) before line after) (fills limit split tracks)
  pub few : length split ≤ nets

-- no tracks go on from those that do not fit the line
abbrev pub NoneUnfit : LineWays → Type 0
NoneUnfit ways =
    (pins : Pins) (limit : ℕ) (nets : List NetNo) (before : NetNo → Bool) (line : Line) (after : NetNo → Bool)
    (tracks : List NetTrack) → test_beside limit line [] tracks ≡ false
    → ways pins limit nets before line after tracks ≡ []
