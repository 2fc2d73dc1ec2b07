use Rattle.std.proofs.Common.{◌∙◌, refl, subst, sym}
use Rattle.cell_inputs.specs.declared.style.LeastRow.TheVariants.{Lowest}
use Rattle.cell_make.proofs.CellBy.{IsWhy, low_cyclic, low_drawing, low_so, low_tall, standing, stop_by}
use Rattle.cell_make.proofs.MadeCells.{low_tracks, made_of, row_widths, same_cell}
use Rattle.cell_make.specs.Rowed.{row_cell}
use Rattle.cell_make.specs.declared.row_outcome.Undrawn.TheVariants as why
use Rattle.cell_make.proofs.drawn_cell.low_cell.Goals as goal

pub row_cell-cell-requires-clause-widths : goal.row_cell-cell-requires-clause-widths
row_cell-cell-requires-clause-widths c =
    let m = made_of c.args.inputs c.in-Drawn.placement c.requires.low.1 c.in-Drawn.routing c.in-Drawn.drawn in
    let ready = low_so c.args.inputs c.args.low c.in-Drawn.placement c.in-Drawn.routing c.in-Drawn.drawn c.requires.low c.in-Drawn.is c.show_limits.ensures c.requires.written c.requires.extent in
    row_widths m (standing Lowest m ready)

pub row_cell-cell-requires-clause-tracks : goal.row_cell-cell-requires-clause-tracks
row_cell-cell-requires-clause-tracks c =
    let m = made_of c.args.inputs c.in-Drawn.placement c.requires.low.1 c.in-Drawn.routing c.in-Drawn.drawn in
    let ready = low_so c.args.inputs c.args.low c.in-Drawn.placement c.in-Drawn.routing c.in-Drawn.drawn c.requires.low c.in-Drawn.is c.show_limits.ensures c.requires.written c.requires.extent in
    low_tracks m (standing Lowest m ready)

pub row_cell-cell-requires-clause-fits : goal.row_cell-cell-requires-clause-fits
row_cell-cell-requires-clause-fits c =
    let m = made_of c.args.inputs c.in-Drawn.placement c.requires.low.1 c.in-Drawn.routing c.in-Drawn.drawn in
    let ready = low_so c.args.inputs c.args.low c.in-Drawn.placement c.in-Drawn.routing c.in-Drawn.drawn c.requires.low c.in-Drawn.is c.show_limits.ensures c.requires.written c.requires.extent in
    (standing Lowest m ready).drawn.fits

pub returns-in-Drawn-clause-made : goal.returns-in-Drawn-clause-made
returns-in-Drawn-clause-made c =
    let m = made_of c.args.inputs c.in-Drawn.placement c.requires.low.1 c.in-Drawn.routing c.in-Drawn.drawn in
    let ready = low_so c.args.inputs c.args.low c.in-Drawn.placement c.in-Drawn.routing c.in-Drawn.drawn c.requires.low c.in-Drawn.is c.show_limits.ensures c.requires.written c.requires.extent in
    record {
      m = m;
      of = refl;
      is = ready.is;
      sound = ready.sound;
      cell = same_cell c.row_cell-cell.result (row_cell m) c.row_cell-cell.ensures.name c.row_cell-cell.ensures.nets c.row_cell-cell.ensures.pins
          (c.row_cell-cell.ensures.drawing ∙ low_drawing c.args.inputs c.args.low c.in-Drawn.placement c.in-Drawn.routing c.in-Drawn.drawn c.requires.low c.in-Drawn.is)
          c.row_cell-cell.ensures.n c.row_cell-cell.ensures.p;
    }

pub returns-in-Cyclic-clause-stops : goal.returns-in-Cyclic-clause-stops
returns-in-Cyclic-clause-stops c =
    stop_by Lowest c.args.inputs c.ringed.result c.stopped.result c.stopped.ensures
    (subst (IsWhy Lowest c.args.inputs) (sym c.ringed.ensures) (low_cyclic c.args.inputs c.args.low c.in-Cyclic.placement c.in-Cyclic.ring c.requires.low c.in-Cyclic.is))

pub returns-in-Tall-clause-stops : goal.returns-in-Tall-clause-stops
returns-in-Tall-clause-stops c =
    stop_by Lowest c.args.inputs (why.Tall c.in-Tall.needed c.in-Tall.given) c.stopped-in-Tall.result c.stopped-in-Tall.ensures
    (low_tall c.args.inputs c.args.low c.in-Tall.placement c.in-Tall.routing c.in-Tall.needed c.in-Tall.given c.show_limits.ensures c.requires.low c.in-Tall.is)
