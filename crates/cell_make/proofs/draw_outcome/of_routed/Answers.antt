use Rattle.std.proofs.Common.{refl, subst, sym}
use Rattle.cell_draw.specs.declared.drawing.Drawing.{Drawing}
use Rattle.gds_read.specs.RoundTrip.{IsReadable}
use Rattle.cell_inputs.specs.Inputs.{inputs_of, unit_nm}
use Rattle.cell_make.specs.Rows.{IsThat}
use Rattle.cell_make.specs.Style.{final}
use Rattle.cell_make.proofs.Extent.{lies_so, some_column}
use Rattle.cell_make.proofs.Finals.{final_is}
use Rattle.cell_make.proofs.Makes.{drawn_so, placed_legal, placed_row, readable_so}
use Rattle.cell_make.proofs.draw_outcome.of_routed.Goals as goal

pub draw_routed-requires-clause-row : goal.draw_routed-requires-clause-row
draw_routed-requires-clause-row c = placed_row c.args.inputs.now (inputs_of c.inputs.inside.tech c.inputs.inside.cell c.inputs.inside.fingers) c.args.placement.row c.args.placement c.inputs.view_is c.show_limits.ensures c.requires.arranged c.requires.placed

pub draw_routed-requires-clause-some : goal.draw_routed-requires-clause-some
draw_routed-requires-clause-some c = some_column c.args.placement.row c.args.inputs.now.fingers c.requires.arranged c.show_limits.ensures.some

pub draw_routed-requires-clause-routing : goal.draw_routed-requires-clause-routing
draw_routed-requires-clause-routing c = placed_legal c.args.style c.args.inputs.now (inputs_of c.inputs.inside.tech c.inputs.inside.cell c.inputs.inside.fingers) c.args.placement c.args.routing c.inputs.view_is c.requires.legal

pub returns-in-Ok-clause-comes : goal.returns-in-Ok-clause-comes
returns-in-Ok-clause-comes c =
    drawn_so (IsThat c.args.routing) c.args.style c.args.inputs.now (inputs_of c.inputs.inside.tech c.inputs.inside.cell c.inputs.inside.fingers) c.args.placement c.args.routing c.in-Ok.drawn c.height.result
    c.inputs.view_is c.requires.placed c.height.ensures.is c.show_limits.ensures c.requires.arranged c.requires.places c.requires.legal refl
    (record {
      least = c.in-Ok.ensures.lines;
      fits = c.in-Ok.ensures.fits;
      exact = c.in-Ok.ensures.exact;
      obeys = c.in-Ok.ensures.obeys;
      extracts = c.in-Ok.ensures.extracts;
      bodied = c.in-Ok.ensures.bodied;
      shows = c.in-Ok.ensures.shows;
      routed = c.in-Ok.ensures.routed;
    })
    (record {
      framed = c.in-Ok.ensures.framed;
      narrow = c.in-Ok.ensures.narrow;
      low = c.in-Ok.ensures.low;
      few = c.in-Ok.ensures.few;
      within = c.in-Ok.ensures.within;
      limits = c.in-Ok.ensures.limits;
      extracts = c.in-Ok.ensures.bare;
    })
    c.in-Ok.ensures.tapped
    (readable_so c.args.inputs.now (inputs_of c.inputs.inside.tech c.inputs.inside.cell c.inputs.inside.fingers) (final c.args.style.taps c.in-Ok.drawn.drawing c.in-Ok.drawn.lines).shapes c.inputs.view_is c.show_limits.ensures c.in-Ok.ensures.written)

pub returns-in-Ok-clause-written : goal.returns-in-Ok-clause-written
returns-in-Ok-clause-written c = (
  subst (λ (d : Drawing). IsReadable c.args.inputs.now.cell.name d.shapes (unit_nm c.args.inputs.now.tech)) (sym (final_is c.args.style.taps c.in-Ok.drawn c.in-Ok.ensures.tapped))
      (readable_so c.args.inputs.now (inputs_of c.inputs.inside.tech c.inputs.inside.cell c.inputs.inside.fingers) (final c.args.style.taps c.in-Ok.drawn.drawing c.in-Ok.drawn.lines).shapes c.inputs.view_is c.show_limits.ensures c.in-Ok.ensures.written),
  c.in-Ok.ensures.few,
)

pub returns-in-Ok-clause-extent : goal.returns-in-Ok-clause-extent
returns-in-Ok-clause-extent c =
    lies_so c.args.inputs.now (inputs_of c.inputs.inside.tech c.inputs.inside.cell c.inputs.inside.fingers) c.args.placement c.args.routing c.in-Ok.drawn c.height.result
    c.inputs.view_is c.requires.placed c.height.ensures.is c.show_limits.ensures c.requires.arranged
    (record {
      lines = c.in-Ok.ensures.lines;
      framed = c.in-Ok.ensures.framed;
      width = c.in-Ok.ensures.width;
      narrow = c.in-Ok.ensures.narrow;
      within = c.in-Ok.ensures.within;
    })
