use Rattle.track_ways.proofs.Failing.{at_end_by, branch_by, needs_more_by, too_many_open_by, weaker_by}
use Rattle.piece_lines.specs.Lines.{PieceLineFits}
use Rattle.piece_lines.proofs.Again.{fits_again}
use Rattle.piece_ways.specs.TurningLaw.{turning_rule}
use Rattle.piece_ways.proofs.Failing.{found, more_tracks}
use Rattle.piece_ways.proofs.fail_laws.piece_failures.Goals as goal

pub returns-clause-branch : goal.returns-clause-branch
returns-clause-branch c = branch_by PieceLineFits fits_again

pub returns-clause-at_end : goal.returns-clause-at_end
returns-clause-at_end c = at_end_by PieceLineFits

pub returns-clause-needs_more : goal.returns-clause-needs_more
returns-clause-needs_more c = needs_more_by PieceLineFits

pub returns-clause-weaker : goal.returns-clause-weaker
returns-clause-weaker c = weaker_by PieceLineFits fits_again

pub returns-clause-too_many_open : goal.returns-clause-too_many_open
returns-clause-too_many_open c = λ pins limit k s track gaps nets gates one each more. too_many_open_by PieceLineFits turning_rule.own pins limit k s track gaps nets gates one each more

pub returns-clause-more_tracks : goal.returns-clause-more_tracks
returns-clause-more_tracks c = more_tracks

pub returns-clause-found : goal.returns-clause-found
returns-clause-found c = found
