-- What a bound on gaps says of a state.
use Rattle.std.specs.Prelude.{ℕ, ◌<◌, ◌⊎◌}
use Rattle.cell_num.specs.declared.finger.Row.{Row}
use Rattle.cell_num.specs.declared.finger.Row.TheVariants.{P, N}
use Rattle.row_state.specs.declared.kind.Kinds.{Kinds}
use Rattle.row_state.specs.declared.state.State.{State}

-- the bound of a row is above the gaps
abbrev pub IsAboveGaps : (Row → State → Kinds → ℕ) → Kinds → State → ℕ → Type 0
IsAboveGaps value k s gaps = (gaps < value P s k) ⊎ (gaps < value N s k)
