use Rattle.bare_cells.proofs.Stretches.{empty_both, both_empty}
use Rattle.bare_cells.proofs.rows.both.Goals as goal

pub returns-then-is_empty : goal.returns-then-is_empty
returns-then-is_empty c = empty_both c.args.one c.args.other (c.is_empty.ensures.0 c.if-is_empty.true)

pub returns-then-is_empty-2 : goal.returns-then-is_empty-2
returns-then-is_empty-2 c = both_empty c.args.one c.args.other (c.is_empty-2.ensures.0 c.if-is_empty-2.true)
