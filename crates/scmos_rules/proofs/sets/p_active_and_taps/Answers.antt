use Rattle.scmos_rules.specs.Layout.{PActive, SubstrateTap}
use Rattle.scmos_rules.specs.declared.rules.Deck.TheVariants.{Taps}
use Rattle.scmos_rules.proofs.Unions.{either_cells, either_inner}
use Rattle.scmos_rules.proofs.sets.p_active_and_taps.Goals as goal

pub returns-clause-cells : goal.returns-clause-cells
returns-clause-cells c = either_cells (PActive Taps c.args.shapes.now.rects) (SubstrateTap c.args.shapes.now.rects) c.in_ok-active.active c.in_ok-taps.taps c.in_ok-region.region c.in_ok-active.ensures.cells c.in_ok-taps.ensures.cells c.in_ok-region.ensures

pub returns-clause-inner : goal.returns-clause-inner
returns-clause-inner c = either_inner c.in_ok-active.active c.in_ok-taps.taps c.in_ok-region.region c.in_ok-active.ensures.inner c.in_ok-taps.ensures.inner c.in_ok-region.ensures
