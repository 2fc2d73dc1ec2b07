-- Which gates with half columns a search fills, which it leaves open, and the levels that it has then.
use Rattle.std.specs.Prelude.{◌==◌, ◌&&◌, Bool, not, List, map}
use Rattle.std.specs.List.{filter, list_any, range_with_len}
use Rattle.cell_num.specs.declared.net.NetNo.{NetNo}
use Rattle.cell_num.specs.declared.finger.Fingers.{Fingers}
use Rattle.trail_state.specs.declared.level.Level.{Level}
use Rattle.open_gates.specs.Leveled.{levels_in}
use Rattle.open_gates.specs.Open.{closed_in, has_more, is_uneven, open_in, row_of}
use Rattle.trail_check.specs.Gates.{has_many_ways}

-- the gates with half columns, in the order of their numbers
abbrev pub uneven_gates : Fingers → List NetNo
uneven_gates f = map (λ g. record { 0 = g }) (filter (is_uneven f) (range_with_len 0 f.nets))

-- a gate with half columns that has too many ways, where they are filled
abbrev pub is_crowded : Fingers → NetNo → Bool
is_crowded f gate = is_uneven f gate.0 && has_many_ways f gate

abbrev pub crowded_gates : Fingers → List NetNo → List NetNo
crowded_gates f order = filter (is_crowded f) order

-- those that have more fingers in the row of the first of them
abbrev pub longer_gates : Fingers → List NetNo → List NetNo
longer_gates f gates = filter (has_more (row_of f gates) f) gates

-- these are left open
abbrev pub opened_gates : Fingers → List NetNo → List NetNo
opened_gates f order = longer_gates f (crowded_gates f order)

abbrev pub is_one_of : List NetNo → NetNo → Bool
is_one_of gates gate = list_any (λ (g : NetNo). g.0 == gate.0) gates

-- the other gates with half columns are filled
abbrev pub filled_gates : Fingers → List NetNo → List NetNo
filled_gates f order = filter (λ gate. not (is_one_of (opened_gates f order) gate)) (uneven_gates f)

-- the gates of the order that are not left open
abbrev pub closed_gates : Fingers → List NetNo → List NetNo
closed_gates f order = closed_in f (filled_gates f order) order

-- the levels of the order, with the others left open
abbrev pub search_levels : Fingers → List NetNo → List Level
search_levels f order = levels_in f (open_in f (filled_gates f order) order) order
