-- The first of the completions of a state along which tracks go.
use Rattle.std.specs.Prelude.{ℕ, ◌≡◌, ◌≤◌, ◌⊎◌, List, Contains, map}
use Rattle.cell_num.specs.declared.net.NetNo.{NetNo}
use Rattle.cell_num.specs.declared.net.Pins.{Pins}
use Rattle.row_state.specs.declared.kind.Kinds.{Kinds}
use Rattle.row_state.specs.declared.state.State.{State}
use Rattle.row_state.specs.declared.step.Step.{Step}
use Rattle.row_state.specs.Completion.{further_gaps}
use Rattle.row_state.specs.Order.{RowBefore}
use Rattle.row_state.specs.Steps.{column_of}
use Rattle.track_ways.specs.Lines.{LineRule}
use Rattle.track_ways.specs.Paths.{Leads, RunsBy}
use Rattle.track_ways.specs.declared.track.NetTrack.{NetTrack}
use Rattle.track_ways.specs.Tracks.{AreTracksOf}

-- by a rule, tracks of one of the ways go along the steps
pub record RunsOn
    (rule : LineRule) (pins : Pins) (limit : ℕ) (k : Kinds) (s : State) (ways : List (List NetTrack))
    (steps : List Step) : Type 0 where
  pub way : List NetTrack
  pub there : Contains ways way
  pub track : NetNo → ℕ
  pub lie : AreTracksOf way track
  pub runs : RunsBy rule pins limit k s track steps

-- the steps complete the state with at most that many further gaps, and tracks of one of the ways go along them
pub record IsRouted
    (rule : LineRule) (pins : Pins) (limit : ℕ) (k : Kinds) (s : State) (ways : List (List NetTrack)) (gaps : ℕ)
    (steps : List Step) : Type 0 where
  pub leads : Leads k s steps
  pub within : further_gaps s (map (column_of k) steps) ≤ gaps
  pub on : RunsOn rule pins limit k s ways steps

-- and no others precede them
pub record IsFirstRouted
    (rule : LineRule) (pins : Pins) (limit : ℕ) (k : Kinds) (s : State) (ways : List (List NetTrack)) (gaps : ℕ)
    (steps : List Step) : Type 0 where
  pub routed : IsRouted rule pins limit k s ways gaps steps
  pub first : (other : List Step) → IsRouted rule pins limit k s ways gaps other
      → (map (column_of k) steps ≡ map (column_of k) other)
      ⊎ RowBefore (map (column_of k) steps) (map (column_of k) other)
