-- Where two neighbouring columns can not share their diffusion, and how often that is in a row.
use Rattle.std.specs.Prelude.{ℕ, Bool, false, not, ◌||◌, ◌==◌, if◌then◌else◌, List, Option, Some, drop, count_by}
use Rattle.std.specs.List.{zip}
use Rattle.cell_num.specs.declared.net.NetNo.{NetNo}
use Rattle.row_model.specs.declared.column.Placed.{Placed}
use Rattle.row_model.specs.declared.column.Column.{Column}

-- the net at the left end of a finger as it stands
abbrev pub left_net : Placed → NetNo
left_net x = if x.flipped then x.finger.hi else x.finger.lo

abbrev pub right_net : Placed → NetNo
right_net x = if x.flipped then x.finger.lo else x.finger.hi

-- both places are filled, and the facing nets differ
abbrev pub facing_differs : Option Placed → Option Placed → Bool
facing_differs (Some a) (Some b) = not ((right_net a).0 == (left_net b).0)
facing_differs _ _ = false

abbrev pub is_gap : Column × Column → Bool
is_gap pair = facing_differs pair.0.p pair.1.p || facing_differs pair.0.n pair.1.n

-- the number of neighbouring columns with a gap
abbrev pub gaps_of : List Column → ℕ
gaps_of row = count_by is_gap (zip row (drop 1 row))
