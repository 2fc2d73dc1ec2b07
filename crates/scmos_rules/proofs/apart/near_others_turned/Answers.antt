use Rattle.scmos_rules.proofs.Exchanged.{near_turned}
use Rattle.scmos_rules.proofs.apart.near_others_turned.Goals as goal

pub returns-then-has_fewer : goal.returns-then-has_fewer
returns-then-has_fewer c = near_turned c.args.set.now c.in_ok-turned.turned c.in_ok-near.near c.in_ok-region.region c.args.by c.in_ok-turned.ensures c.in_ok-near.ensures c.in_ok-region.ensures
