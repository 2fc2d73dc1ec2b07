use Rattle.scmos_rules.proofs.RunLengths.{open_is, rest_turned}
use Rattle.scmos_rules.proofs.runs.short_gaps.Goals as goal

pub wrong_runs-requires : goal.wrong_runs-requires
wrong_runs-requires c = record { turned = rest_turned c.args.set.now c.in_ok-plane.plane c.in_ok-rest.rest c.in_ok-turned.turned c.in_ok-turned_rest.turned_rest c.in_ok-plane.ensures c.in_ok-rest.ensures c.in_ok-turned.ensures c.in_ok-turned_rest.ensures }

pub returns : goal.returns
returns c = open_is c.args.value c.args.set.now c.in_ok-plane.plane c.in_ok-rest.rest c.in_ok-region.region c.requires.small c.requires.inner c.in_ok-plane.ensures c.in_ok-rest.ensures c.in_ok-region.ensures
