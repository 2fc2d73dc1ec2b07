use Rattle.call_work.proofs.EachCommand.{all_work}
use Rattle.call_work.proofs.commands.work.Goals as goal

pub returns : goal.returns
returns c = all_work c.args.material.now c.work_on.result c.work_on.ensures
