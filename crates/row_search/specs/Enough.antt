-- A number of nodes that no search spends.
use Rattle.std.specs.Prelude.{ℕ, ◌+◌, ◌*◌}
use Rattle.row_state.specs.declared.kind.Kinds.{Kinds}
use Rattle.row_state.specs.Code.{most_states}
use Rattle.row_state.specs.Start.{columns_left, start_of}

-- how many columns the fingers need
abbrev pub columns_in : Kinds → ℕ
columns_in k = columns_left k (start_of k)

-- a lemma of each bound at each state, and the columns of the row
abbrev pub enough : Kinds → ℕ
enough k = columns_in k * most_states k + columns_in k + 1
