use Rattle.bound_log.proofs.Keeping.{rooms_all}
use Rattle.bound_log.proofs.kept.Kept.room.Goals as goal

pub returns : goal.returns
returns c = rooms_all c.self.inside.kinds c.self.inside.packed c.args.self.now _ c.self.view_is c.in_ok-start.ensures.valid.p_kinds c.in_ok-start.ensures.valid.n_kinds
