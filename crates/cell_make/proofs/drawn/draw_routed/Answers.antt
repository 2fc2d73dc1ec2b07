use Rattle.cell_make.proofs.Finals.{final_bodied, final_extracts, final_obeys, final_routed, final_shows, final_writable}
use Rattle.cell_make.proofs.Wirings.{wired_by}
use Rattle.cell_make.proofs.drawn.draw_routed.Goals as goal

pub returns-clause-obeys : goal.returns-clause-obeys
returns-clause-obeys c = final_obeys c.args.style.taps c.in_ok-lines.lines c.in_ok-drawing.drawing
    c.in_ok-drawing.ensures.base
    c.in_ok-drawing.ensures.obeys

pub returns-clause-extracts : goal.returns-clause-extracts
returns-clause-extracts c = final_extracts c.args.style.taps c.in_ok-lines.lines c.in_ok-drawing.drawing c.args.cell.now.nets c.args.cell.now.pins c.args.placement.now.row
    c.in_ok-drawing.ensures.base
    c.in_ok-drawing.ensures.extracts

pub returns-clause-bodied : goal.returns-clause-bodied
returns-clause-bodied c = λ are.
    final_bodied c.args.style.taps c.in_ok-drawing.drawing c.args.cell.now.nets c.args.cell.now.pins c.args.placement.now c.args.routing.now c.in_ok-lines.lines c.args.height
    c.in_ok-drawing.ensures.exact
    c.in_ok-drawing.ensures.base
    c.requires.placement c.requires.row
    (wired_by c.args.style.wiring c.args.placement.now c.args.cell.now.pins c.args.routing.now c.requires.routing) c.in_ok-lines.ensures.least.allowed are

pub returns-clause-shows : goal.returns-clause-shows
returns-clause-shows c = final_shows c.args.style.taps c.in_ok-lines.lines c.in_ok-drawing.drawing c.args.cell.now.nets c.args.cell.now.pins c.args.placement.now.row
    c.in_ok-drawing.ensures.base
    c.in_ok-drawing.ensures.shows

pub returns-clause-routed : goal.returns-clause-routed
returns-clause-routed c = final_routed c.args.style.taps c.args.style.wiring c.in_ok-lines.lines c.in_ok-drawing.drawing c.args.cell.now.nets c.args.cell.now.pins c.args.placement.now c.args.routing.now
    c.in_ok-drawing.ensures.base
    c.in_ok-drawing.ensures.routed

pub returns-clause-written : goal.returns-clause-written
returns-clause-written c =
    final_writable c.args.style.taps c.in_ok-lines.lines c.in_ok-drawing.drawing c.args.cell.now.nets
    c.in_ok-drawing.ensures.base
    c.in_ok-drawing.ensures.low c.in_ok-drawing.ensures.few c.in_ok-drawing.ensures.within c.in_ok-drawing.ensures.named c.in_ok-tapped.ensures.limits
