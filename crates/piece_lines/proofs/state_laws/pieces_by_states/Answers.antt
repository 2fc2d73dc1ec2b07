use Rattle.piece_lines.proofs.OnPaths.{again, fewest, from_path, legal_path, path_of}
use Rattle.piece_lines.proofs.state_laws.pieces_by_states.Goals as goal

pub returns-clause-path : goal.returns-clause-path
returns-clause-path c = path_of

pub returns-clause-one : goal.returns-clause-one
returns-clause-one c = from_path

pub returns-clause-again : goal.returns-clause-again
returns-clause-again c = again

pub returns-clause-fewest : goal.returns-clause-fewest
returns-clause-fewest c = fewest

pub returns-clause-legal : goal.returns-clause-legal
returns-clause-legal c = legal_path
