-- All tracks after some lines, from those of the nets that are open before them.
use Rattle.std.specs.Prelude.{ℕ, ◌≡◌, ◌≤◌, ◌||◌, Bool, true, List, [], ◌∷◌, All, length}
use Rattle.std.specs.List.{flat_map}
use Rattle.cell_num.specs.declared.net.NetNo.{NetNo}
use Rattle.cell_num.specs.declared.net.Pins.{Pins}
use Rattle.track_ways.specs.declared.line.Line.{Line}
use Rattle.track_ways.specs.declared.track.NetTrack.{NetTrack}
use Rattle.track_ways.specs.Lines.{is_ahead, with_line}
use Rattle.track_ways.specs.Ways.{LineWays, fills, nets_below, open_of, test_beside}

abbrev pub onward_ways :
    LineWays → Pins → ℕ → List NetNo → (NetNo → Bool) → List Line → (NetNo → Bool) → List NetTrack
    → List (List NetTrack)
onward_ways ways pins limit nets before [] after tracks = tracks ∷ []
onward_ways ways pins limit nets before (line ∷ rest) after tracks =
    flat_map (λ way. onward_ways ways pins limit nets (with_line before line) rest after
    (open_of pins (with_line before line) (λ net. is_ahead rest net || after net) way))
    (ways pins limit nets before line (λ net. is_ahead rest net || after net) tracks)

-- whatever tracks these nets get, all tracks after the lines pass
abbrev pub AllOnward :
    (List NetTrack → Type 0) → LineWays → Pins → ℕ → List NetNo → (NetNo → Bool) → List Line → (NetNo → Bool)
    → List NetNo → List NetTrack → Type 0
AllOnward passes ways pins limit nets before lines after split tracks =
    All (λ more. All passes (onward_ways ways pins limit nets before lines after more)) (fills limit split tracks)

-- the tracks fit the first line, if there is one
abbrev pub fit_first : ℕ → List Line → List NetTrack → Bool
fit_first limit [] tracks = true
fit_first limit (line ∷ rest) tracks = test_beside limit line [] tracks

-- the tracks after some lines are those that go on from all tracks of these nets
pub record SplitsOnward
    (ways : LineWays) (pins : Pins) (nets limit : ℕ) (before : NetNo → Bool) (lines : List Line)
    (after : NetNo → Bool) (tracks : List NetTrack) (split : List NetNo) : Type 0 where
  pub each : onward_ways ways pins limit (nets_below nets) before lines after tracks
      ≡ flat_map (onward_ways ways pins limit (nets_below nets) before lines after) (fills limit split tracks)
  pub few : length split ≤ nets
