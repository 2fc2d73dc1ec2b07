use Rattle.std.proofs.Common.{rules}
use Rattle.trail_state.proofs.Added.{alone_known}
use Rattle.trail_state.proofs.alone.add_alone.Goals as goal

pub returns-clause-known : goal.returns-clause-known
returns-clause-known c = λ xs next has known.
    alone_known c.args.gate.now c.args.x c.args.behind.now xs c.args.part.now _ _ _ c.args.all.now.keys c.add_column.new.all.keys
    (search rules) (search rules) (search rules) (search rules) c.in_ok-add_column.ensures.known next has known
