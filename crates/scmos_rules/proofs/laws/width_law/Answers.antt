use Rattle.scmos_rules.proofs.Widths.{width}
use Rattle.scmos_rules.proofs.laws.width_law.Goals as goal

pub returns : goal.returns
returns c = width
