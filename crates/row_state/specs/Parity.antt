-- The parity bound of one row.
use Rattle.std.specs.Prelude.{ℕ, zero, suc, ◌+◌, ◌-◌, ◌/◌, Bool, false, not, ◌==◌, if◌then◌else◌, List, Option, Some}
use Rattle.std.specs.Prelude.{None, sum_by}
use Rattle.cell_num.specs.declared.finger.Row.{Row}
use Rattle.cell_num.specs.declared.finger.Row.TheVariants.{P, N}
use Rattle.cell_num.specs.declared.net.NetNo.{NetNo}
use Rattle.cell_num.specs.declared.finger.Finger.{Finger}
use Rattle.cell_num.specs.Fingers.{on_gate, sum_below}
use Rattle.row_trails.specs.Trails.{size, toggle}
use Rattle.row_state.specs.declared.kind.Kinds.{Kinds}
use Rattle.row_state.specs.declared.state.State.{State}
use Rattle.row_state.specs.Completion.{left_in}

abbrev pub parity : ℕ → Bool
parity zero = false
parity (suc n) = not (parity n)

abbrev pub ends_on : ℕ → Finger → ℕ
ends_on u f = (if u == f.lo.0 then 1 else 0) + (if u == f.hi.0 then 1 else 0)

abbrev pub is_odd : List Finger → ℕ → Bool
is_odd fs u = parity (sum_by (ends_on u) fs)

-- the places that stay empty
abbrev pub empty_left : List Finger → List Finger → ℕ → ℕ
empty_left mine other nets = sum_below (λ g. on_gate g other - on_gate g mine) nets

abbrev pub parity_of : ℕ → Option NetNo → List Finger → List Finger → ℕ
parity_of nets (Some v) mine other = size nets (toggle v.0 (is_odd mine)) / 2 - empty_left mine other nets
parity_of nets None mine other = (size nets (is_odd mine) - 1) / 2 - empty_left mine other nets

abbrev pub parity_value : Row → State → Kinds → ℕ
parity_value P s k = parity_of k.nets s.p_end (left_in k s).p (left_in k s).n
parity_value N s k = parity_of k.nets s.n_end (left_in k s).n (left_in k s).p
