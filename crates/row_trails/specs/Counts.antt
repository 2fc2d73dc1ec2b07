-- Tables of nets and classes, and the trails that so many odd nets need.
use Rattle.std.specs.Prelude.{ℕ, ◌-◌, ◌/◌, Bool, false, ◌&&◌, ◌==◌, if◌then◌else◌, max, List, Option, Some, None}
use Rattle.std.specs.Prelude.{slice_index_or}
use Rattle.cell_num.specs.declared.net.NetNo.{NetNo}
use Rattle.row_trails.specs.Trails.{size}

-- what a table has at a place
abbrev pub entry : List ℕ → ℕ → ℕ
entry table at = slice_index_or table at 0

abbrev pub flag : List Bool → ℕ → Bool
flag table at = slice_index_or table at false

-- how many nets of the set are in the class
abbrev pub size_in : ℕ → (ℕ → ℕ) → (ℕ → Bool) → ℕ → ℕ
size_in nets class set h = size nets (λ u. (class u == h) && set u)

-- The fewest trails that pass all fingers of a class of so many odd nets: each net is passed in pairs
-- of ends but where a trail begins or ends.
abbrev pub fewest_trails : Bool → ℕ → ℕ
fewest_trails has odd = if has then max 1 (odd / 2) else 0

-- half of the odd nets, without the one that the walk may begin at where no end is open
abbrev pub halved : Option NetNo → ℕ → ℕ
halved (Some v) odd = odd / 2
halved None odd = (odd - 1) / 2
