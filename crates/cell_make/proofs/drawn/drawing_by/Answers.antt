use Rattle.cell_make.proofs.Finals.{wired_base}
use Rattle.cell_make.proofs.drawn.drawing_by.Goals as goal

pub returns-in_ok-drawing-in-Straight-clause-base : goal.returns-in_ok-drawing-in-Straight-clause-base
returns-in_ok-drawing-in-Straight-clause-base c =
    wired_base _ c.args.placement.now c.args.cell.now.pins c.args.routing.now c.args.lines.now c.in_ok-drawing-in-Straight.drawing c.requires.placement c.requires.some c.requires.lines c.in_ok-drawing-in-Straight.ensures.framed

pub returns-in_ok-drawing-in-Doglegs-clause-base : goal.returns-in_ok-drawing-in-Doglegs-clause-base
returns-in_ok-drawing-in-Doglegs-clause-base c =
    wired_base _ c.args.placement.now c.args.cell.now.pins c.args.routing.now c.args.lines.now c.in_ok-drawing-in-Doglegs.drawing c.requires.placement c.requires.some c.requires.lines c.in_ok-drawing-in-Doglegs.ensures.framed
