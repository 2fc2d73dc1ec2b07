-- What is asked of a rule of how tracks go through a line, and of its lists of tracks.
use Rattle.std.specs.Prelude.{ℕ, ◌≡◌, ◌≤◌, ◌<◌, ◌⊎◌, ◌||◌, Bool, true, false, List, All, Any, Contains}
use Rattle.cell_num.specs.declared.net.NetNo.{NetNo}
use Rattle.cell_num.specs.declared.net.Pins.{Pins}
use Rattle.track_ways.specs.declared.line.Line.{Line}
use Rattle.track_ways.specs.declared.track.NetTrack.{NetTrack}
use Rattle.track_ways.specs.Lines.{Agrees, LineRule, StraightFits, has_place, is_held, is_open, with_line}
use Rattle.track_ways.specs.Tracks.{AreTracksOf, IsSingle, Listed}
use Rattle.track_ways.specs.Ways.{LineWays}

-- all these nets are in the list
abbrev pub Among : List NetNo → (NetNo → Bool) → Type 0
Among nets test = (net : NetNo) → test net ≡ true → Contains nets net

-- A way that is listed after a line: no net has two tracks, and each that holds the line and begins there or goes on
-- has one. They go on from tracks before the line, of which the listed ones are some.
pub record IsWay
    (rule : LineRule) (pins : Pins) (limit : ℕ) (before : NetNo → Bool) (line : Line) (after : NetNo → Bool)
    (tracks way : List NetTrack) : Type 0 where
  pub one : IsSingle way
  pub each : (net : NetNo) → is_held pins before line after net ≡ true
      → (before net ≡ false) ⊎ (after net ≡ true) → Listed way net
  pub from : (next : NetNo → ℕ) → AreTracksOf way next
      → (track : NetNo → ℕ) × AreTracksOf tracks track × rule pins limit track before line after next

-- tracks that go through a line do so below a higher limit, too
abbrev pub IsWider : LineRule → Type 0
IsWider rule =
    (pins : Pins) (few many : ℕ) (before : NetNo → Bool) (line : Line) (after : NetNo → Bool) (track next : NetNo → ℕ)
    → few ≤ many → rule pins few track before line after next → rule pins many track before line after next

-- of the tracks before a line those of the open nets alone count
abbrev pub IsAgain : LineRule → Type 0
IsAgain rule =
    (pins : Pins) (limit : ℕ) (before : NetNo → Bool) (line : Line) (after : NetNo → Bool)
    (track other next : NetNo → ℕ) → Agrees pins before (λ net. has_place line net || after net) other track
    → rule pins limit track before line after next → rule pins limit other before line after next

-- each net that holds a line has a track of its own there: an open one that with which it comes
abbrev pub IsOwn : LineRule → Type 0
IsOwn rule =
    (pins : Pins) (limit : ℕ) (before : NetNo → Bool) (line : Line) (after : NetNo → Bool) (track next : NetNo → ℕ)
    → rule pins limit track before line after next
    → (of : NetNo → ℕ) × StraightFits pins limit track before line after of

-- a net that begins at a line or goes on from it has a track below the limit
abbrev pub IsLow : LineRule → Type 0
IsLow rule =
    (pins : Pins) (limit : ℕ) (before : NetNo → Bool) (line : Line) (after : NetNo → Bool) (track next : NetNo → ℕ)
    → rule pins limit track before line after next
    → (net : NetNo) → is_held pins before line after net ≡ true → (before net ≡ false) ⊎ (after net ≡ true)
    → next net < limit

-- the rule, and these lists for it
pub record IsRule (rule : LineRule) (ways : LineWays) : Type 0 where
  pub wider : IsWider rule
  pub again : IsAgain rule
  pub own : IsOwn rule
  pub low : IsLow rule
  -- each way of tracks through the line is listed
  pub all : (pins : Pins) (limit : ℕ) (nets : List NetNo) (before : NetNo → Bool) (line : Line) (after : NetNo → Bool)
      (track next : NetNo → ℕ) (tracks : List NetTrack)
      → AreTracksOf tracks track
      → All (λ (t : NetTrack). is_open pins before (λ net. has_place line net || after net) t.net ≡ true) tracks
      → rule pins limit track before line after next
      → Any (λ way. AreTracksOf way next) (ways pins limit nets before line after tracks)
  -- whatever is listed is one
  pub only : (pins : Pins) (limit : ℕ) (nets : List NetNo) (before : NetNo → Bool) (line : Line) (after : NetNo → Bool)
      (tracks way : List NetTrack)
      → Among nets (with_line before line) → Contains (ways pins limit nets before line after tracks) way
      → IsWay rule pins limit before line after tracks way
