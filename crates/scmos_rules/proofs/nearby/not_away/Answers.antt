use Rattle.scmos_rules.proofs.Distances.{away_is}
use Rattle.scmos_rules.proofs.nearby.not_away.Goals as goal

pub returns : goal.returns
returns c = away_is c.args.inside.now c.args.outside.now c.in_ok-near.near c.in_ok-region.region c.args.by c.requires.small c.requires.inner c.in_ok-near.ensures c.in_ok-region.ensures
