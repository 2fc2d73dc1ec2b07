use Rattle.std.proofs.Common.{rules}
use Rattle.trail_state.proofs.Added.{n_known}
use Rattle.trail_state.proofs.alone.add_n.Goals as goal

pub returns-clause-known : goal.returns-clause-known
returns-clause-known c =
    n_known c.args.gate.now c.args.part.now c.in-Some.y.now c.in-Some.left.now _ c.stands_at-again.result _ c.args.all.now.keys c.add_column.new.all.keys
    (search rules) (search rules) (search rules) c.in_ok-add_column.ensures.known
