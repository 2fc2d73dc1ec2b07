use Rattle.track_search.proofs.Bare.{free_is}
use Rattle.track_search.proofs.progress.Progress.is_free.Goals as goal

pub returns-clause-free : goal.returns-clause-free
returns-clause-free g c = λ t. free_is c.args.task.now.pins.now c.args.task.now.limit c.args.task.now.kinds.now c.args.self.now.known c.args.at.now.state c.args.gaps c.args.at.now.code c.at.result c.requires.numbered.valid c.requires.numbered.code c.requires.noted.free c.at.ensures (c.is_from.ensures.0 t)
