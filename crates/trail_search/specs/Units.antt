-- The units of a budget: each visit of a state takes some, and so does each list of the choices of the gates.
use Rattle.std.specs.Prelude.{ℕ, ◌+◌, ◌/◌, List, Option, Some, None, length, slice_get, sum_by}
use Rattle.cell_num.specs.declared.net.NetNo.{NetNo}
use Rattle.trail_state.specs.declared.level.Level.{Level}
use Rattle.trail_check.specs.declared.lemma.TrailLemma.{TrailLemma}

-- one for each 64 choices of the gate
abbrev pub choice_units : Level → ℕ
choice_units level = length level.choices / 64

-- one for the state, and those of its choices
abbrev pub level_units : Level → ℕ
level_units level = 1 + choice_units level

-- no choice is left after the last gate
abbrev pub visit_units : Option Level → ℕ
visit_units None = 1
visit_units (Some level) = level_units level

-- a visit of a state after so many gates
unfoldable pub units_at : List Level → ℕ → ℕ
units_at levels done = visit_units (slice_get levels done)

-- one visit for each lemma
unfoldable pub units_of : List Level → List TrailLemma → ℕ
units_of levels lemmas = sum_by (λ (l : TrailLemma). units_at levels l.done) lemmas

-- one visit at each gate
unfoldable pub path_units : List Level → ℕ
path_units levels = sum_by level_units levels

-- A list of the choices of all gates. Where one has too many ways, they are listed up to the 65,536th.
abbrev pub listed_units : Option NetNo → List Level → ℕ
listed_units None levels = sum_by choice_units levels
listed_units (Some gate) levels = 1024
