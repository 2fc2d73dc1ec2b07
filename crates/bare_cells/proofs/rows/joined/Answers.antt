use Rattle.bare_cells.proofs.Stretches.{joined_is}
use Rattle.bare_cells.proofs.rows.joined.Goals as goal

pub returns : goal.returns
returns c = joined_is c.args.filled c.args.closed c.in_ok-shut.shut c.in_ok-unshut.unshut c.in_ok-bare.bare c.in_ok-bare-2.bare c.args.left c.args.right (record { bare = c.in_ok-minus.field-0; shut = c.in_ok-either.field-0 }) c.in_ok-shut.ensures c.in_ok-unshut.ensures c.in_ok-bare.ensures c.in_ok-bare-2.ensures c.in_ok-minus.ensures c.in_ok-either.ensures
