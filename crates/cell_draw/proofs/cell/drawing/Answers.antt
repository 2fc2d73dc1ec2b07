use Rattle.std.proofs.Common.{◌≡◌, map, rules}
use Rattle.cell_draw.specs.Drawings.{label_of}
use Rattle.cell_draw.specs.Shapes.{shapes_of}
use Rattle.cell_draw.proofs.Bounds.{parts_within}
use Rattle.cell_draw.proofs.cell.drawing.Goals as goal

pub returns-clause-within : goal.returns-clause-within
returns-clause-within c =
    let rects : c.in_ok-rects.rects ≡ shapes_of c.args.layout.now = search rules in
    let labels : c.in_ok-labels.labels ≡ map (label_of c.args.names.now) c.args.layout.now.tags = search rules in
    parts_within c.in_ok-rects.rects c.in_ok-labels.labels c.args.names.now c.args.layout.now rects labels c.requires
