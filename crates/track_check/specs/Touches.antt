-- How often nets are touched, as tables by the number of the net, and which nets have places before and after a state.
use Rattle.std.specs.Prelude.{ℕ, ◌≡◌, ◌+◌, ◌==◌, Bool, cond, List, sum_by}
use Rattle.std.specs.List.{zip}
use Rattle.cell_num.specs.declared.net.NetNo.{NetNo}
use Rattle.row_trails.specs.Counts.{entry}
use Rattle.row_state.specs.declared.kind.Kind.{Kind}
use Rattle.row_state.specs.declared.kind.Kinds.{Kinds}
use Rattle.row_state.specs.declared.state.State.{State}
use Rattle.track_ways.specs.States.{is_behind, is_still_ahead, touched_here, touched_left}
use Rattle.track_ways.specs.Tables.{marked}
use Rattle.track_check.specs.declared.nets.StateNets.{StateNets}

abbrev pub counted_if : Bool → ℕ → ℕ
counted_if is count = cond is count 0

-- how often that many fingers of a kind have the net as an end or as their gate
abbrev pub kind_touches : ℕ → Kind × ℕ → ℕ
kind_touches net pair =
    counted_if (pair.0.lo.0 == net) pair.1 + counted_if (pair.0.hi.0 == net) pair.1
    + counted_if (pair.0.gate.0 == net) pair.1

-- the same of all kinds of a row
abbrev pub row_touches : List Kind → List ℕ → ℕ → ℕ
row_touches kinds left net = sum_by (kind_touches net) (zip kinds left)

-- how often each net is an end or the gate of a finger that the state has left, or one of its open ends
abbrev pub AreTouches : Kinds → State → List ℕ → Type 0
AreTouches k s table = (net : NetNo) → entry table net.0 ≡ touched_left k s net + touched_here s net

-- the nets with a place before the last node line of the state, and those with one at that line or later
pub record AreNetsOf (k : Kinds) (s : State) (nets : StateNets) : Type 0 where
  pub before : marked nets.before ≡ is_behind k s
  pub ahead : marked nets.ahead ≡ is_still_ahead k s
