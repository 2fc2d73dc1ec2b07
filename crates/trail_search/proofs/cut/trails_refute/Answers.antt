use Rattle.trail_search.proofs.Front.{refuted_behind}
use Rattle.trail_search.proofs.cut.trails_refute.Goals as goal

pub returns-in-Ok-clause-refuted : goal.returns-in-Ok-clause-refuted
returns-in-Ok-clause-refuted c = λ yes. refuted_behind c.args.kinds.now c.args.state.now c.in_ok-fingers.fingers c.args.allowed c.is_open.result c.show_limits.ensures c.requires.state c.is_open.ensures c.if-not-is_open.false c.in_ok-fingers.ensures (c.in-Ok.ensures.refuted yes)
