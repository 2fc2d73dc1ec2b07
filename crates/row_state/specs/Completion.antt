-- The completions of a state, and how many further gaps they all have.
use Rattle.std.specs.Prelude.{ℕ, ◌+◌, ◌≤◌, ◌||◌, if◌then◌else◌, List, [], ◌∷◌, replicate}
use Rattle.std.specs.List.{zip, flat_map}
use Rattle.cell_num.specs.declared.finger.Row.{Row}
use Rattle.cell_num.specs.declared.finger.Row.TheVariants.{P, N}
use Rattle.cell_num.specs.declared.finger.Finger.{Finger}
use Rattle.cell_num.specs.declared.finger.Fingers.{Fingers}
use Rattle.row_model.specs.declared.column.Column.{Column}
use Rattle.row_model.specs.Arrangement.{IsArrangement}
use Rattle.row_model.specs.Gaps.{gaps_of}
use Rattle.row_trails.specs.Trails.{end_differs}
use Rattle.row_state.specs.declared.kind.Kind.{Kind}
use Rattle.row_state.specs.declared.kind.Kinds.{Kinds}
use Rattle.row_state.specs.declared.state.State.{State}

abbrev pub finger_of : Row → Kind → Finger
finger_of row k = record { row = row; gate = k.gate; lo = k.lo; hi = k.hi; width = k.width }

-- so many fingers of each kind
abbrev pub fingers_left : Row → List Kind → List ℕ → List Finger
fingers_left row kinds left = flat_map (λ (x : Kind × ℕ). replicate x.1 (finger_of row x.0)) (zip kinds left)

-- the fingers that a state has left
abbrev pub left_in : Kinds → State → Fingers
left_in k s = record { nets = k.nets; p = fingers_left P k.p s.p_left; n = fingers_left N k.n s.n_left }

-- what a column costs behind the open ends
abbrev pub cost_of : State → Column → ℕ
cost_of s c = if end_differs s.p_end c.p || end_differs s.n_end c.n then 1 else 0

abbrev pub first_cost : State → List Column → ℕ
first_cost s [] = 0
first_cost s (c ∷ cs) = cost_of s c

-- the gaps of the columns, and one where the first column costs 1
abbrev pub further_gaps : State → List Column → ℕ
further_gaps s row = first_cost s row + gaps_of row

-- the list uses exactly the fingers left, in as few columns as they allow
abbrev pub Completes : Kinds → State → List Column → Type 0
Completes k s row = IsArrangement row (left_in k s)

-- every completion of the state has at least so many further gaps
abbrev pub Need : Kinds → State → ℕ → Type 0
Need k s bound = (row : List Column) → Completes k s row → bound ≤ further_gaps s row
