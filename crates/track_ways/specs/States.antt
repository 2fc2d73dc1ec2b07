-- Which nets are open after a prefix, by its state alone.
use Rattle.std.specs.Prelude.{ℕ, ◌≡◌, ◌+◌, ◌==◌, ◌&&◌, ltb, not, cond, Bool, List, None, sum_by, IsPermutation, ◌++◌}
use Rattle.cell_num.specs.declared.net.NetNo.{NetNo}
use Rattle.cell_num.specs.declared.net.Pins.{Pins}
use Rattle.cell_num.specs.declared.finger.Row.TheVariants.{P, N}
use Rattle.cell_num.specs.declared.finger.Finger.{Finger}
use Rattle.row_model.specs.declared.column.Column.{Column}
use Rattle.row_model.specs.Arrangement.{fingers_in}
use Rattle.row_state.specs.declared.kind.Kinds.{Kinds}
use Rattle.row_state.specs.declared.state.State.{State}
use Rattle.row_state.specs.Completion.{left_in}
use Rattle.row_state.specs.Start.{start_of}
use Rattle.track_ways.specs.Lines.{is_net}
use Rattle.cell_num.specs.Pins.{is_rail}
use Rattle.track_ways.specs.Rows.{end_after}

-- how often the net is an end or the gate of a finger
abbrev pub touches : NetNo → Finger → ℕ
touches net f = cond (f.lo.0 == net.0) 1 0 + cond (f.hi.0 == net.0) 1 0 + cond (f.gate.0 == net.0) 1 0

abbrev pub touched : NetNo → List Finger → ℕ
touched net fs = sum_by (touches net) fs

-- in the fingers that a state has left
abbrev pub touched_left : Kinds → State → NetNo → ℕ
touched_left k s net = touched net (left_in k s).p + touched net (left_in k s).n

-- at its open ends
abbrev pub touched_here : State → NetNo → ℕ
touched_here s net = cond (is_net s.p_end net) 1 0 + cond (is_net s.n_end net) 1 0

-- the net has a place before the last node line of the prefix
abbrev pub is_behind : Kinds → State → NetNo → Bool
is_behind k s net = ltb (touched_left k s net + touched_here s net) (touched_left k (start_of k) net)

-- it has one at that line or later
abbrev pub is_still_ahead : Kinds → State → NetNo → Bool
is_still_ahead k s net = ltb 0 (touched_left k s net + touched_here s net)

abbrev pub is_open_at : Pins → Kinds → State → NetNo → Bool
is_open_at pins k s net = not (is_rail pins net) && (is_behind k s net && is_still_ahead k s net)

-- the state of a prefix of a row: the fingers that it does not use, and its right ends
pub record IsBehind (k : Kinds) (prefix : List Column) (s : State) : Type 0 where
  pub p : IsPermutation (left_in k (start_of k)).p (fingers_in P prefix ++ (left_in k s).p)
  pub n : IsPermutation (left_in k (start_of k)).n (fingers_in N prefix ++ (left_in k s).n)
  pub p_end : s.p_end ≡ end_after P None prefix
  pub n_end : s.n_end ≡ end_after N None prefix
