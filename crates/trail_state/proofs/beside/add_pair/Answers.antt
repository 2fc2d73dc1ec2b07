use Rattle.std.proofs.Common.{rules}
use Rattle.trail_state.proofs.Added.{pair_known}
use Rattle.trail_state.proofs.beside.add_pair.Goals as goal

pub returns-clause-known : goal.returns-clause-known
returns-clause-known c = λ gate xs has known.
    pair_known gate c.args.x xs c.args.part.now c.args.y _ c.args.at c.stands_at-again.result _ c.args.all.now.keys c.add_column.new.all.keys
    c.requires.at c.requires.there (search rules) (search rules) (search rules) c.in_ok-add_column.ensures.known has known
