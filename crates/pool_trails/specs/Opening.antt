-- Which gates with half columns a search leaves open, which it fills, and which fingers it leaves out.
use Rattle.std.specs.Prelude.{ℕ, ◌-◌, ◌==◌, Bool, not, if◌then◌else◌, ltb, List, Option, Some, None, length, map}
use Rattle.std.specs.List.{filter, range_with_len}
use Rattle.cell_num.specs.declared.net.NetNo.{NetNo}
use Rattle.cell_num.specs.declared.finger.Fingers.{Fingers}
use Rattle.cell_num.specs.declared.finger.Row.{Row}
use Rattle.cell_num.specs.declared.finger.Row.TheVariants.{P, N}
use Rattle.open_gates.specs.declared.gates.OpenGates.{OpenGates}
use Rattle.open_gates.specs.Open.{has_more, open_in, row_of}
use Rattle.trail_check.specs.Justified.{gaps_proved}
use Rattle.fewer_fingers.specs.declared.fewer.LeftOut.{LeftOut}
use Rattle.fewer_fingers.specs.Fewer.{columns_lost, staying}
use Rattle.pool_check.specs.Accepted.{has_many_ways}
use Rattle.trail_search.specs.Filling.{is_one_of, opened_gates, uneven_gates}
use Rattle.pool_trails.specs.declared.opening.Opening.{Opening}
use Rattle.pool_trails.specs.declared.opening.Opening.TheVariants.{Crowded, Longer, Without}

-- ---- fingers that are left out

abbrev pub other_row : Row → Row
other_row P = N
other_row N = P

abbrev pub all_nets : Fingers → List NetNo
all_nets f = map (λ n. record { 0 = n }) (range_with_len 0 f.nets)

-- the gates with more fingers in the row, left open
abbrev pub open_with_more : Row → Fingers → OpenGates
open_with_more row f = record { row = row; gates = filter (has_more row f) (all_nets f) }

-- though half columns of the other row stay open, the fingers of the gate pair in too many ways
abbrev pub is_left_out : Row → Fingers → NetNo → Bool
is_left_out row f gate = has_many_ways f (open_with_more (other_row row) f) gate

abbrev pub gates_left_out : Row → Fingers → List NetNo
gates_left_out row f = filter (is_left_out row f) (all_nets f)

-- the fingers of the row on these gates, where there are any
abbrev pub left_out : Row → Fingers → Option LeftOut
left_out row f =
    if length (gates_left_out row f) == 0 then None
    else Some (record { row = row; gates = gates_left_out row f })

abbrev pub out_of : Opening → Fingers → Option LeftOut
out_of (Without row) f = left_out row f
out_of _ f = None

-- the fingers that stay: lemmas are about these
abbrev pub staying_by : Opening → Fingers → Fingers
staying_by opening f = staying (out_of opening f) f

-- how many columns less these need
abbrev pub lost_by : Opening → Fingers → ℕ
lost_by opening f = columns_lost f (staying_by opening f)

-- what these ends of the others come to, less the columns lost: each arrangement of all has at least as many gaps
abbrev pub gaps_by : Opening → Fingers → ℕ → ℕ
gaps_by opening f ends = gaps_proved ends - lost_by opening f

-- the row whose fingers are left out first: where fewer columns are lost, N where as many are
abbrev pub first_out : Fingers → Row
first_out f = if ltb (lost_by (Without P) f) (lost_by (Without N) f) then P else N

-- ---- gates that are left open, of the fingers that stay

-- No gate with half columns has too many ways to be filled, so trail_search leaves none open.
abbrev pub is_uncrowded : Fingers → List NetNo → Bool
is_uncrowded f order = length (opened_gates f order) == 0

-- The row with more fingers, P where both have as many. It has more half columns: each other column has a finger of
-- either row.
abbrev pub fuller_row : Fingers → Row
fuller_row f = if ltb (length f.p) (length f.n) then N else P

-- the row in which the first of the gates has more fingers; the fuller one, where there is none
abbrev pub row_among : Fingers → List NetNo → Row
row_among f gates = if length gates == 0 then fuller_row f else row_of f gates

-- the row whose half columns stay open
abbrev pub counted_row : Fingers → List NetNo → Row
counted_row f order = row_among f (opened_gates f order)

-- `Longer`: the gates with more fingers in that row; `Crowded`: those that trail_search leaves open; `Without`: the
-- gates with fewer fingers in the row that it names
abbrev pub opened_by : Opening → Fingers → List NetNo → List NetNo
opened_by Longer f order = filter (has_more (counted_row f order) f) order
opened_by Crowded f order = opened_gates f order
opened_by (Without row) f order = filter (has_more (other_row row) f) order

-- the other gates with half columns are filled
abbrev pub fill_by : Opening → Fingers → List NetNo → List NetNo
fill_by opening f order = filter (λ gate. not (is_one_of (opened_by opening f order) gate)) (uneven_gates f)

-- the gates that are left open, and the row in which each has more fingers
abbrev pub opened_of : Opening → Fingers → List NetNo → OpenGates
opened_of opening f order = open_in f (fill_by opening f order) order
