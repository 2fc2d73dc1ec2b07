use Rattle.piece_lines.proofs.Fewest.{legal, none_less}
use Rattle.piece_lines.proofs.Listed.{pieces_of_sweeps}
use Rattle.piece_lines.proofs.Straight.{straight_sweeps}
use Rattle.piece_lines.proofs.Swept.{legal_sweeps}
use Rattle.piece_lines.proofs.laws.pieces_by_lines.Goals as goal

pub returns-clause-sweeps : goal.returns-clause-sweeps
returns-clause-sweeps c = λ p pins lines r limit track h l enough. legal_sweeps p pins lines h r l limit enough track

pub returns-clause-trunks : goal.returns-clause-trunks
returns-clause-trunks c = straight_sweeps

pub returns-clause-pieces : goal.returns-clause-pieces
returns-clause-pieces c = λ p pins lines limit track h pinned s. let w = pieces_of_sweeps p pins lines h pinned limit track s in (w.list, w.are)

pub returns-clause-legal : goal.returns-clause-legal
returns-clause-legal c = λ p pins lines limit list h w none. legal p pins lines h limit list w none

pub returns-clause-fewest : goal.returns-clause-fewest
returns-clause-fewest c = λ p pins lines limit h none r l. none_less p pins lines h limit none r l
