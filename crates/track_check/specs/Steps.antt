-- When a next column leaves a lemma justified: by listed tracks.
use Rattle.std.specs.Prelude.{ℕ, ◌==◌, ◌&&◌, ◌||◌, not, Bool, List, All}
use Rattle.cell_num.specs.declared.finger.Row.{Row}
use Rattle.cell_num.specs.declared.net.Pins.{Pins}
use Rattle.row_state.specs.declared.kind.Kinds.{Kinds}
use Rattle.row_state.specs.declared.state.State.{State}
use Rattle.row_state.specs.declared.step.Step.{Step}
use Rattle.row_state.specs.Steps.{state_after}
use Rattle.track_ways.specs.declared.track.NetTrack.{NetTrack}
use Rattle.track_ways.specs.Ways.{LineWays, goes_ways_by, line_ways}
use Rattle.track_ways.specs.declared.lemma.TrackLemma.{TrackLemma}
use Rattle.track_ways.specs.Checked.{IsRefutedListed}
use Rattle.row_cycles.specs.Next.{IfLeft}

-- the same net on the same track
abbrev pub is_track : NetTrack → NetTrack → Bool
is_track t u = (u.net.0 == t.net.0) && (u.track == t.track)

-- not the same net on two tracks
abbrev pub agrees : NetTrack → NetTrack → Bool
agrees t u = not (t.net.0 == u.net.0) || (t.track == u.track)

-- with that many gaps left after the column, all tracks after it that a rule lists are refuted
abbrev pub WaysFailBy :
    LineWays → (Row → State → Kinds → ℕ) → Pins → ℕ → Kinds → List TrackLemma → TrackLemma → Step → ℕ → Type 0
WaysFailBy ways value pins limit k earlier lemma step left =
    All (IsRefutedListed value k earlier (state_after k lemma.state step) left)
    (goes_ways_by ways pins limit k lemma.state lemma.tracks step)

-- so it is where the column may come next and does not cost more than the gaps of the lemma
abbrev pub StepFailsListedBy :
    LineWays → (Row → State → Kinds → ℕ) → Pins → ℕ → Kinds → List TrackLemma → TrackLemma → Step → Type 0
StepFailsListedBy ways value pins limit k earlier lemma step =
    IfLeft k lemma.state lemma.gaps step (WaysFailBy ways value pins limit k earlier lemma step)

-- the same where nets go straight
abbrev pub WaysFail :
    (Row → State → Kinds → ℕ) → Pins → ℕ → Kinds → List TrackLemma → TrackLemma → Step → ℕ → Type 0
WaysFail = WaysFailBy line_ways

abbrev pub StepFailsListed :
    (Row → State → Kinds → ℕ) → Pins → ℕ → Kinds → List TrackLemma → TrackLemma → Step → Type 0
StepFailsListed = StepFailsListedBy line_ways
