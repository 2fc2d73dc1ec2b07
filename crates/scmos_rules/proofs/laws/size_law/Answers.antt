use Rattle.scmos_rules.proofs.Sizes.{size}
use Rattle.scmos_rules.proofs.laws.size_law.Goals as goal

pub returns : goal.returns
returns c = size
