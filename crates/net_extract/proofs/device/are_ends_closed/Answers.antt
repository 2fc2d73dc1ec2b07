use Rattle.net_extract.specs.Areas.{cells_in}
use Rattle.net_extract.specs.Pieces.{rect_of}
use Rattle.net_extract.proofs.Siding.{both_closed, low_not_closed}
use Rattle.net_extract.proofs.device.are_ends_closed.Goals as goal

pub returns-then-is_free : goal.returns-then-is_free
returns-then-is_free c = both_closed c.args.shapes.now c.args.current (rect_of c.args.gate.now) (cells_in c.low_side.result) (cells_in c.high_side.result) c.is_free.result c.is_free-then-is_free.result c.low_side.ensures c.is_free.ensures c.if-is_free.true c.high_side.ensures c.is_free-then-is_free.ensures

pub returns-else-is_free : goal.returns-else-is_free
returns-else-is_free c = (λ t. absurd (cc t), λ k. absurd (low_not_closed c.args.shapes.now c.args.current (rect_of c.args.gate.now) (cells_in c.low_side.result) c.is_free.result c.low_side.ensures c.is_free.ensures c.if-is_free.false k))
