-- The versions of logs: 1 rests on the parity bound, 2 on the component bound.
use Rattle.std.specs.Prelude.{ℕ, ◌≡◌, ◌⊎◌, ◌==◌, if◌then◌else◌}
use Rattle.cell_num.specs.declared.finger.Row.{Row}
use Rattle.row_state.specs.declared.kind.Kinds.{Kinds}
use Rattle.row_state.specs.declared.state.State.{State}
use Rattle.row_state.specs.Component.{component_value}
use Rattle.row_state.specs.Parity.{parity_value}

abbrev pub IsVersion : ℕ → Type 0
IsVersion version = (version ≡ 1) ⊎ (version ≡ 2)

-- the bound that the logs of a version rest on
abbrev pub value_of : ℕ → Row → State → Kinds → ℕ
value_of version row s k = if version == 2 then component_value row s k else parity_value row s k
