-- The lemmas that functions name, by function.
use Rattle.cell_make.proofs.Wirings.{piece_ring, pieces_legal, pieces_tight, shows_doglegs, shows_straight}
use Rattle.cell_make.proofs.Wirings.{straight_legal, wired_so}

pub ruleset route_by_rules = (pieces_legal, pieces_tight, piece_ring)

pub ruleset drawing_by_rules = (straight_legal, wired_so, shows_straight, shows_doglegs)
