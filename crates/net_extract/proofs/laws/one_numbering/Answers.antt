use Rattle.net_extract.proofs.Numbers.{one_number}
use Rattle.net_extract.proofs.Orders.{same_numbering}
use Rattle.net_extract.proofs.laws.one_numbering.Goals as goal

pub returns-clause-list : goal.returns-clause-list
returns-clause-list c = same_numbering

pub returns-clause-cell : goal.returns-clause-cell
returns-clause-cell c = one_number
