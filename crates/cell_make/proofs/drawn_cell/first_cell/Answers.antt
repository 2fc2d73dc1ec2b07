use Rattle.std.proofs.Common.{◌∙◌, refl}
use Rattle.cell_inputs.specs.declared.style.LeastRow.TheVariants.{First}
use Rattle.cell_make.proofs.CellBy.{first_cyclic, first_drawing, first_open, first_so, first_tall, standing, stop_by}
use Rattle.cell_make.proofs.MadeCells.{low_tracks, made_of, row_widths, same_cell}
use Rattle.cell_make.specs.Rowed.{row_cell}
use Rattle.cell_make.specs.declared.row_outcome.Undrawn.TheVariants as why
use Rattle.cell_make.proofs.drawn_cell.first_cell.Goals as goal

pub row_cell-cell-requires-clause-widths : goal.row_cell-cell-requires-clause-widths
row_cell-cell-requires-clause-widths c =
    let m = made_of c.args.inputs c.in-Made.placement c.in-Made.log c.in-Made.routing c.in-Made.drawn in
    let ready = first_so c.args.inputs c.plain.result c.in_ok-outcome.outcome c.in-Made.placement c.in-Made.log c.in-Made.routing c.in-Made.drawn
    c.plain.ensures c.in-Made.is c.show_limits.ensures c.in_ok-outcome.ensures.comes c.in_ok-outcome.ensures.written c.in_ok-outcome.ensures.extent in
    row_widths m (standing First m ready)

pub row_cell-cell-requires-clause-tracks : goal.row_cell-cell-requires-clause-tracks
row_cell-cell-requires-clause-tracks c =
    let m = made_of c.args.inputs c.in-Made.placement c.in-Made.log c.in-Made.routing c.in-Made.drawn in
    let ready = first_so c.args.inputs c.plain.result c.in_ok-outcome.outcome c.in-Made.placement c.in-Made.log c.in-Made.routing c.in-Made.drawn
    c.plain.ensures c.in-Made.is c.show_limits.ensures c.in_ok-outcome.ensures.comes c.in_ok-outcome.ensures.written c.in_ok-outcome.ensures.extent in
    low_tracks m (standing First m ready)

pub returns-in-Made-clause-made : goal.returns-in-Made-clause-made
returns-in-Made-clause-made c =
    let m = made_of c.args.inputs c.in-Made.placement c.in-Made.log c.in-Made.routing c.in-Made.drawn in
    let ready = first_so c.args.inputs c.plain.result c.in_ok-outcome.outcome c.in-Made.placement c.in-Made.log c.in-Made.routing c.in-Made.drawn
    c.plain.ensures c.in-Made.is c.show_limits.ensures c.in_ok-outcome.ensures.comes c.in_ok-outcome.ensures.written c.in_ok-outcome.ensures.extent in
    record {
      m = m;
      of = refl;
      is = ready.is;
      sound = ready.sound;
      cell = same_cell c.row_cell-cell.result (row_cell m) c.row_cell-cell.ensures.name c.row_cell-cell.ensures.nets c.row_cell-cell.ensures.pins
          (c.row_cell-cell.ensures.drawing ∙ first_drawing c.args.inputs c.plain.result c.in_ok-outcome.outcome c.in-Made.placement c.in-Made.log c.in-Made.routing c.in-Made.drawn c.plain.ensures c.in-Made.is c.in_ok-outcome.ensures.comes)
          c.row_cell-cell.ensures.n c.row_cell-cell.ensures.p;
    }

pub returns-in-Cyclic-clause-stops : goal.returns-in-Cyclic-clause-stops
returns-in-Cyclic-clause-stops c =
    stop_by First c.args.inputs (why.Cyclic c.in-Cyclic.ring) c.stopped.result c.stopped.ensures
    (first_cyclic c.args.inputs c.plain.result c.in_ok-outcome.outcome c.in-Cyclic.placement c.in-Cyclic.log c.in-Cyclic.ring c.plain.ensures c.in-Cyclic.is c.in_ok-outcome.ensures.comes)

pub returns-in-Tall-clause-stops : goal.returns-in-Tall-clause-stops
returns-in-Tall-clause-stops c =
    stop_by First c.args.inputs (why.Tall c.in-Tall.needed c.in-Tall.given) c.stopped-in-Tall.result c.stopped-in-Tall.ensures
    (first_tall c.args.inputs c.plain.result c.in_ok-outcome.outcome c.in-Tall.placement c.in-Tall.log c.in-Tall.routing c.in-Tall.needed c.in-Tall.given c.plain.ensures c.in-Tall.is c.in_ok-outcome.ensures.comes)

pub returns-in-Unfinished-clause-stops : goal.returns-in-Unfinished-clause-stops
returns-in-Unfinished-clause-stops c = (
  refl,
  first_open c.args.inputs c.plain.result c.in_ok-outcome.outcome c.in-Unfinished.log c.in-Unfinished.proved c.plain.ensures c.in-Unfinished.is c.in_ok-outcome.ensures.comes,
)
