use Rattle.scmos_rules.proofs.RunLengths.{runs_wrong}
use Rattle.scmos_rules.proofs.runs.wrong_runs.Goals as goal

pub returns : goal.returns
returns c = runs_wrong c.args.measure c.args.value c.args.set.now c.in_ok-rows.rows c.args.turned.now c.in_ok-across.across c.in_ok-columns.columns c.in_ok-region.region c.in_ok-rows.ensures c.requires.turned c.in_ok-across.ensures c.in_ok-columns.ensures c.in_ok-region.ensures
