use Rattle.std.proofs.Common.{◌≡◌, length, ap, ◌∙◌, arith, rules}
use Rattle.channel_route.specs.Wiring.{wiring_of}
use Rattle.cell_draw.specs.Drawings.{drawing_of}
use Rattle.cell_draw.specs.Frame.{frame_of}
use Rattle.cell_draw.specs.Layouts.{width_of, laid_out}
use Rattle.cell_draw.proofs.TrunkCount.{few_tracks}
use Rattle.cell_draw.proofs.BridgeRow.{widths}
use Rattle.cell_draw.proofs.Draws.{low_tracks, drawn_small}
use Rattle.cell_draw.proofs.wiring.drawn.Goals as goal

pub fitting_frame-requires-clause-widths : goal.fitting_frame-requires-clause-widths
fitting_frame-requires-clause-widths c = widths c.args.names.now c.args.pins.now c.args.placement.now.row c.requires.row

pub fitting_frame-requires-clause-tracks : goal.fitting_frame-requires-clause-tracks
fitting_frame-requires-clause-tracks c = omega (arith, few_tracks c.args.placement.now c.args.pins.now (wiring_of c.args.tracks c.args.trunks.now) c.requires.placement c.requires.wiring)

pub layout-requires-clause-trunks : goal.layout-requires-clause-trunks
layout-requires-clause-trunks c = low_tracks c.args.placement.now c.args.pins.now (wiring_of c.args.tracks c.args.trunks.now) c.requires.wiring (few_tracks c.args.placement.now c.args.pins.now (wiring_of c.args.tracks c.args.trunks.now) c.requires.placement c.requires.wiring) c.as_slice.result.now (search rules)

pub drawing-requires : goal.drawing-requires
drawing-requires c =
    let layout : c.in_ok-layout.layout ≡ laid_out c.in_ok-frame.frame (length c.args.names.now) c.args.pins.now c.args.placement.now c.args.trunks.now c.args.xs.now = search rules in
    let frame : c.in_ok-frame.frame ≡ frame_of c.args.placement.now.row c.args.tracks c.args.height (width_of c.args.placement.now c.args.xs.now) = search rules in
    drawn_small c.args.names.now c.args.pins.now c.args.placement.now (wiring_of c.args.tracks c.args.trunks.now) c.args.xs.now c.args.height (length c.args.names.now) c.in_ok-frame.frame c.in_ok-layout.layout c.requires.placement c.requires.row c.requires.wiring c.requires.lines c.requires.last c.in_ok-frame.ensures.small frame layout

pub returns-clause-exact : goal.returns-clause-exact
returns-clause-exact c =
    let drawn : c.in_ok-drawing.field-0 ≡ drawing_of c.args.names.now c.in_ok-layout.layout = search rules in
    let layout : c.in_ok-layout.layout ≡ laid_out c.in_ok-frame.frame (length c.args.names.now) c.args.pins.now c.args.placement.now c.args.trunks.now c.args.xs.now = search rules in
    let frame : c.in_ok-frame.frame ≡ frame_of c.args.placement.now.row c.args.tracks c.args.height (width_of c.args.placement.now c.args.xs.now) = search rules in
    drawn ∙ ap (λ l. drawing_of c.args.names.now l) (layout ∙ ap (λ f. laid_out f (length c.args.names.now) c.args.pins.now c.args.placement.now c.args.trunks.now c.args.xs.now) frame)
