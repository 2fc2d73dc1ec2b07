use Rattle.scmos_rules.proofs.Distances.{surround_is}
use Rattle.scmos_rules.proofs.nearby.not_surrounded.Goals as goal

pub returns : goal.returns
returns c = surround_is c.args.inside.now c.args.outside.now c.in_ok-around.around c.in_ok-out.out c.in_ok-near_out.near_out c.in_ok-region.region c.args.by c.requires.small c.requires.inner c.in_ok-around.ensures c.in_ok-out.ensures c.in_ok-near_out.ensures c.in_ok-region.ensures
