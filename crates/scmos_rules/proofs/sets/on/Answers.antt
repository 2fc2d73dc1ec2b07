use Rattle.scmos_rules.proofs.Unions.{on_cells, on_inner}
use Rattle.scmos_rules.proofs.sets.on.Goals as goal

pub returns-clause-cells : goal.returns-clause-cells
returns-clause-cells c = on_cells c.args.layer c.args.shapes.now.rects c.in_ok-region.region c.in_ok-region.ensures

pub returns-clause-inner : goal.returns-clause-inner
returns-clause-inner c = on_inner c.args.layer c.args.shapes.now.rects c.in_ok-region.region c.show_limits.ensures c.in_ok-region.ensures
