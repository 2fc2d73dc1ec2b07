use Rattle.scmos_rules.proofs.Directions.{four_ways}
use Rattle.scmos_rules.proofs.gates.together.Goals as goal

pub returns : goal.returns
returns c = four_ways c.args.right.now c.args.left.now c.args.up.now c.args.down.now c.in_ok-across.across c.in_ok-upward.upward c.in_ok-region.region c.in_ok-across.ensures c.in_ok-upward.ensures c.in_ok-region.ensures
