use Rattle.bare_cells.proofs.Stretches.{empty_minus, minus_empty}
use Rattle.bare_cells.proofs.rows.minus.Goals as goal

pub returns-then-is_empty : goal.returns-then-is_empty
returns-then-is_empty c = empty_minus c.args.one c.args.other.now (c.is_empty.ensures.0 c.if-is_empty.true)

pub returns-then-is_empty-2 : goal.returns-then-is_empty-2
returns-then-is_empty-2 c = minus_empty c.args.one c.args.other.now (c.is_empty-2.ensures.0 c.if-is_empty-2.true)
