use Rattle.scmos_rules.proofs.OneList.{one_list}
use Rattle.scmos_rules.proofs.laws.one_list.Goals as goal

pub returns : goal.returns
returns c = one_list
