-- The fingers of a state: those that it has left, and a column in front of them that leaves its open ends.
use Rattle.std.specs.Prelude.{ℕ, ◌+◌, ◌++◌, List, [], ◌∷◌, Option, Some, None, true}
use Rattle.std.specs.Option.{option_map}
use Rattle.cell_num.specs.declared.finger.Row.{Row}
use Rattle.cell_num.specs.declared.finger.Row.TheVariants.{P, N}
use Rattle.cell_num.specs.declared.net.NetNo.{NetNo}
use Rattle.cell_num.specs.declared.finger.Finger.{Finger}
use Rattle.cell_num.specs.declared.finger.Fingers.{Fingers}
use Rattle.row_model.specs.declared.column.Placed.{Placed}
use Rattle.row_model.specs.declared.column.Column.{Column}
use Rattle.row_state.specs.declared.kind.Kinds.{Kinds}
use Rattle.row_state.specs.declared.state.State.{State}
use Rattle.row_state.specs.Completion.{fingers_left}

-- a finger from the net to a net of its own, which is its gate as well
abbrev pub front_finger : Row → ℕ → NetNo → Finger
front_finger row own end = record { row = row; gate = record { 0 = own }; lo = end; hi = record { 0 = own }; width = 0 }

-- it stands where an end is open
abbrev pub before : Row → ℕ → Option NetNo → List Finger
before row own None = []
before row own (Some end) = front_finger row own end ∷ []

-- all in all, over one net more
abbrev pub fingers_behind : Kinds → State → Fingers
fingers_behind k s = record {
  nets = k.nets + 1;
  p = before P k.nets s.p_end ++ fingers_left P k.p s.p_left;
  n = before N k.nets s.n_end ++ fingers_left N k.n s.n_left;
}

-- flipped, so that the open end is on its right
abbrev pub front_place : Row → ℕ → Option NetNo → Option Placed
front_place row own end = option_map (λ (net : NetNo). record { finger = front_finger row own net; flipped = true }) end

abbrev pub front_column : Kinds → State → Column
front_column k s = record { p = front_place P k.nets s.p_end; n = front_place N k.nets s.n_end }
