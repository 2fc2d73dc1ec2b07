-- The lemmas that functions name, by function.
use Rattle.row_state.proofs.Calls.{completes_after, fewer_after, valid_after}
use Rattle.row_state.proofs.Codes.{lists_drop, lists_few_n, lists_few_p, lists_next, lists_some, rows_few}
use Rattle.row_state.proofs.Decoding.{code_again, code_few, code_valid}
use Rattle.row_state.proofs.Digits.{code_fits, code_from, ends_few, first_within, nets_few, rows_fit}
use Rattle.row_state.proofs.Level.{level_empty}
use Rattle.row_state.proofs.ParityCode.{empty_few}
use Rattle.row_state.proofs.Valid.{n_fits, p_fits}

pub ruleset rows_rules = (lists_few_p, lists_few_n, first_within, rows_fit)

pub ruleset lists_rules = (lists_next, lists_drop, lists_some)

pub ruleset rows_number_rules = (lists_few_p, lists_few_n, rows_few)

pub ruleset decode_rules = (code_few, code_valid, code_again)

pub ruleset code_behind_rules = (code_from, code_fits, nets_few, ends_few)

pub ruleset count_empty_rules = (level_empty, empty_few, p_fits, n_fits)

pub ruleset after_rules = (valid_after, fewer_after, completes_after)
