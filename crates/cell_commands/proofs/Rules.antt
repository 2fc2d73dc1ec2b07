-- The lemmas that functions name, by function.
use Rattle.cell_commands.proofs.Columns.{has_gate, is_listed}
use Rattle.row_state.proofs.Valid.{kinds_few_n, kinds_few_p}

pub ruleset listed_rules = (kinds_few_p, kinds_few_n, has_gate, is_listed)
