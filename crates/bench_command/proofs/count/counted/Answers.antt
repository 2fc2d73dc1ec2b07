use Rattle.bench_command.proofs.Counted.{small_made}
use Rattle.bench_command.proofs.count.counted.Goals as goal

pub made-requires-clause-small : goal.made-requires-clause-small
made-requires-clause-small c = small_made c.args.inputs.now c.args.outcome.now c.in-Made.placement c.in-Made.log c.in-Made.routing c.in-Made.drawn c.in-Made.is c.show_limits.ensures c.requires.comes c.requires.written
