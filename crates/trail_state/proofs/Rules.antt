-- The lemmas that functions name, by function.
use Rattle.trail_state.proofs.Added.{again_added, alone_known, alone_there, both_known, first_at, first_edges, known_after, known_fingers, known_last, now_there, start_same}
use Rattle.trail_state.proofs.Fronts.{column_known, column_parts, edges_same}
use Rattle.trail_state.proofs.Parts.{both_added, each_added}
use Rattle.trail_state.proofs.Unions.{first_is, gate_first, long_first, long_later, none_long, stops_later}

pub ruleset level_rules = (first_is, gate_first)

pub ruleset list_rules = (long_first, long_later, none_long, stops_later)

pub ruleset column_rules = (edges_same, column_parts, column_known)

pub ruleset at_rules = (again_added, first_at)

pub ruleset paired_rules = (start_same, each_added, first_edges, now_there)

pub ruleset alone_rules = (alone_there, alone_known)

pub ruleset next_rules = (both_added, known_fingers, known_after, known_last, both_known)
