use Rattle.track_check.proofs.Around.{ends_decide}
use Rattle.track_check.proofs.nets.ends_fit.Goals as goal

pub returns : goal.returns
returns c = λ k s first touched. ends_decide k s c.args.all.now c.args.here.now c.are_at_most.result first touched c.are_at_most.ensures
