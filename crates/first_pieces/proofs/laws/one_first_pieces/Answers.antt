use Rattle.first_pieces.proofs.OneFirst.{one_first_pieces}
use Rattle.first_pieces.proofs.laws.one_first_pieces.Goals as goal

pub returns : goal.returns
returns c = one_first_pieces
