use Rattle.pool_trails.proofs.Searched.{many_open}
use Rattle.pool_trails.proofs.gates.along.Goals as goal

pub returns-in-Err-clause-stopped : goal.returns-in-Err-clause-stopped
returns-in-Err-clause-stopped c =
    many_open c.args.fingers.now c.args.gates.now c.requires.gates c.in-Err.cause c.stop_of.result c.as_slice.result.now
    c.as_slice.ensures c.stop_of.ensures c.in-Err.ensures.refused
