use Rattle.std.proofs.Common.{IfOk, sym, subst}
use Rattle.scmos_rules.specs.Cells.{AreCells}
use Rattle.scmos_rules.specs.Rules.{Fails}
use Rattle.scmos_rules.proofs.checking.failing.Goals as goal

pub returns-in-N1_1 : goal.returns-in-N1_1
returns-in-N1_1 c = subst (λ q. IfOk c.width.result (λ r. AreCells (Fails c.args.deck q c.args.shapes.now.rects) r)) (sym c.in-N1_1.is) c.width.ensures

pub returns-in-N2_1 : goal.returns-in-N2_1
returns-in-N2_1 c = subst (λ q. IfOk c.width-in-N2_1.result (λ r. AreCells (Fails c.args.deck q c.args.shapes.now.rects) r)) (sym c.in-N2_1.is) c.width-in-N2_1.ensures

pub returns-in-N2_2 : goal.returns-in-N2_2
returns-in-N2_2 c = subst (λ q. IfOk c.spacing.result (λ r. AreCells (Fails c.args.deck q c.args.shapes.now.rects) r)) (sym c.in-N2_2.is) c.spacing.ensures

pub returns-in-N2_3 : goal.returns-in-N2_3
returns-in-N2_3 c = subst (λ q. IfOk c.well_edge.result (λ r. AreCells (Fails c.args.deck q c.args.shapes.now.rects) r)) (sym c.in-N2_3.is) c.well_edge.ensures

pub returns-in-N2_4 : goal.returns-in-N2_4
returns-in-N2_4 c = subst (λ q. IfOk c.tap_edge.result (λ r. AreCells (Fails c.args.deck q c.args.shapes.now.rects) r)) (sym c.in-N2_4.is) c.tap_edge.ensures

pub returns-in-N3_1 : goal.returns-in-N3_1
returns-in-N3_1 c = subst (λ q. IfOk c.width-in-N3_1.result (λ r. AreCells (Fails c.args.deck q c.args.shapes.now.rects) r)) (sym c.in-N3_1.is) c.width-in-N3_1.ensures

pub returns-in-N3_2 : goal.returns-in-N3_2
returns-in-N3_2 c = subst (λ q. IfOk c.spacing-in-N3_2.result (λ r. AreCells (Fails c.args.deck q c.args.shapes.now.rects) r)) (sym c.in-N3_2.is) c.spacing-in-N3_2.ensures

pub returns-in-N4_2 : goal.returns-in-N4_2
returns-in-N4_2 c = subst (λ q. IfOk c.select_edge.result (λ r. AreCells (Fails c.args.deck q c.args.shapes.now.rects) r)) (sym c.in-N4_2.is) c.select_edge.ensures

pub returns-in-N5_1 : goal.returns-in-N5_1
returns-in-N5_1 c = subst (λ q. IfOk c.size.result (λ r. AreCells (Fails c.args.deck q c.args.shapes.now.rects) r)) (sym c.in-N5_1.is) c.size.ensures

pub returns-in-N5_2 : goal.returns-in-N5_2
returns-in-N5_2 c = subst (λ q. IfOk c.contact_edge.result (λ r. AreCells (Fails c.args.deck q c.args.shapes.now.rects) r)) (sym c.in-N5_2.is) c.contact_edge.ensures

pub returns-in-N5_3 : goal.returns-in-N5_3
returns-in-N5_3 c = subst (λ q. IfOk c.spacing-in-N5_3.result (λ r. AreCells (Fails c.args.deck q c.args.shapes.now.rects) r)) (sym c.in-N5_3.is) c.spacing-in-N5_3.ensures

pub returns-in-N7_1 : goal.returns-in-N7_1
returns-in-N7_1 c = subst (λ q. IfOk c.width-in-N7_1.result (λ r. AreCells (Fails c.args.deck q c.args.shapes.now.rects) r)) (sym c.in-N7_1.is) c.width-in-N7_1.ensures

pub returns-in-N7_2 : goal.returns-in-N7_2
returns-in-N7_2 c = subst (λ q. IfOk c.spacing-in-N7_2.result (λ r. AreCells (Fails c.args.deck q c.args.shapes.now.rects) r)) (sym c.in-N7_2.is) c.spacing-in-N7_2.ensures

pub returns-in-N8_1 : goal.returns-in-N8_1
returns-in-N8_1 c = subst (λ q. IfOk c.size-in-N8_1.result (λ r. AreCells (Fails c.args.deck q c.args.shapes.now.rects) r)) (sym c.in-N8_1.is) c.size-in-N8_1.ensures

pub returns-in-N8_2 : goal.returns-in-N8_2
returns-in-N8_2 c = subst (λ q. IfOk c.spacing-in-N8_2.result (λ r. AreCells (Fails c.args.deck q c.args.shapes.now.rects) r)) (sym c.in-N8_2.is) c.spacing-in-N8_2.ensures

pub returns-in-N8_5 : goal.returns-in-N8_5
returns-in-N8_5 c = subst (λ q. IfOk c.via_over_edge.result (λ r. AreCells (Fails c.args.deck q c.args.shapes.now.rects) r)) (sym c.in-N8_5.is) c.via_over_edge.ensures

pub returns-in-N9_1 : goal.returns-in-N9_1
returns-in-N9_1 c = subst (λ q. IfOk c.width-in-N9_1.result (λ r. AreCells (Fails c.args.deck q c.args.shapes.now.rects) r)) (sym c.in-N9_1.is) c.width-in-N9_1.ensures

pub returns-in-N9_2 : goal.returns-in-N9_2
returns-in-N9_2 c = subst (λ q. IfOk c.spacing-in-N9_2.result (λ r. AreCells (Fails c.args.deck q c.args.shapes.now.rects) r)) (sym c.in-N9_2.is) c.spacing-in-N9_2.ensures
