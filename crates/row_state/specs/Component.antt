-- The component bound of one row: the trails that the fingers left need, class by class.
use Rattle.std.specs.Prelude.{ℕ, ◌-◌, ◌/◌, Bool, ◌==◌, if◌then◌else◌, List, Option, Some, None}
use Rattle.std.specs.List.{list_any}
use Rattle.cell_num.specs.declared.finger.Row.{Row}
use Rattle.cell_num.specs.declared.finger.Row.TheVariants.{P, N}
use Rattle.cell_num.specs.declared.net.NetNo.{NetNo}
use Rattle.cell_num.specs.declared.finger.Finger.{Finger}
use Rattle.cell_num.specs.Fingers.{sum_below}
use Rattle.row_trails.specs.Counts.{fewest_trails, size_in}
use Rattle.row_trails.specs.Trails.{toggle}
use Rattle.row_state.specs.declared.kind.Kinds.{Kinds}
use Rattle.row_state.specs.declared.state.State.{State}
use Rattle.row_state.specs.Classes.{least_chained}
use Rattle.row_state.specs.Completion.{fingers_left, left_in}
use Rattle.row_state.specs.Parity.{empty_left, is_odd}
use Rattle.row_state.specs.Tests.{kinds_in}

-- an end of some finger is in the class
abbrev pub has_finger : (ℕ → ℕ) → List Finger → ℕ → Bool
has_finger class fs h = list_any (λ (f : Finger). class f.lo.0 == h) fs

abbrev pub trails_of : ℕ → List Finger → ℕ → ℕ
trails_of nets fs h =
    fewest_trails (has_finger (least_chained fs) fs h) (size_in nets (least_chained fs) (is_odd fs) h)

-- the trails of the class beside the one that goes on from the open end v
abbrev pub trails_behind : ℕ → List Finger → ℕ → ℕ → ℕ
trails_behind nets fs v h =
    if h == least_chained fs v
    then (size_in nets (least_chained fs) (toggle v (is_odd fs)) h - 1) / 2
    else trails_of nets fs h

-- The trails beside the one that goes on from the open end, or that the walk begins with. A net that
-- no finger left meets is a class of its own.
abbrev pub further_trails : ℕ → Option NetNo → List Finger → ℕ
further_trails nets (Some v) fs = sum_below (trails_behind nets fs v.0) nets
further_trails nets None fs = sum_below (trails_of nets fs) nets - 1

-- a negative number is 0
abbrev pub component_of : ℕ → Option NetNo → List Finger → List Finger → ℕ
component_of nets end mine other = further_trails nets end mine - empty_left mine other nets

unfoldable pub component_value : Row → State → Kinds → ℕ
component_value P s k = component_of k.nets s.p_end (left_in k s).p (left_in k s).n
component_value N s k = component_of k.nets s.n_end (left_in k s).n (left_in k s).p

-- the trails of a row by the counts that it has left
abbrev pub component_trails : Row → Option NetNo → List ℕ → Kinds → ℕ
component_trails row end left k = further_trails k.nets end (fingers_left row (kinds_in row k) left)
