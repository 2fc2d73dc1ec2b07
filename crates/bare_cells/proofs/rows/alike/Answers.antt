use Rattle.std.proofs.Common.{refl}
use Rattle.bare_cells.proofs.Stretches.{alike_is}
use Rattle.bare_cells.proofs.rows.alike.Goals as goal

pub returns : goal.returns
returns c = alike_is c.args.filled c.args.partly c.args.closed c.in_ok-held.held (record { bare = c.in_ok-minus.field-0; shut = c.args.closed }) c.in_ok-held.ensures c.in_ok-minus.ensures refl
