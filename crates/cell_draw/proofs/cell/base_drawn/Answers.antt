use Rattle.std.proofs.Common.{◌≡◌, rules}
use Rattle.cell_draw.specs.Drawings.{base_of}
use Rattle.cell_draw.specs.Frame.{frame_of}
use Rattle.cell_draw.specs.Layouts.{width_of}
use Rattle.cell_draw.proofs.Draws.{base_small}
use Rattle.cell_draw.proofs.cell.base_drawn.Goals as goal

pub drawing-requires : goal.drawing-requires
drawing-requires c =
    let layout : c.in_ok-layout.layout ≡ base_of c.in_ok-frame.frame c.args.pins.now c.args.placement.now c.args.xs.now = search rules in
    let frame : c.in_ok-frame.frame ≡ frame_of c.args.placement.now.row c.args.tracks c.args.height (width_of c.args.placement.now c.args.xs.now) = search rules in
    base_small c.args.pins.now c.args.placement.now c.args.tracks c.args.height c.args.xs.now c.in_ok-frame.frame c.in_ok-layout.layout c.requires.placement c.requires.lines c.requires.widths c.in_ok-frame.ensures.small frame layout
