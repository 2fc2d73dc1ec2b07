use Rattle.std.proofs.Common.{replicate}
use Rattle.track_check.proofs.Around.{ahead_is, zero_at}
use Rattle.track_check.proofs.nets.nets_ahead.Goals as goal

pub returns : goal.returns
returns c = λ k s touched. ahead_is k s c.args.here.now (replicate 256 0) c.less_at.result touched (λ u. zero_at 256 u) c.less_at.ensures
